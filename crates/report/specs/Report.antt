-- What the reading program prints of a packet (RULES, Reading program): the line of the reader's answer where two header bits and 300 bps are named, for a
-- text buffer of 65,536 bytes, whatever these bytes are.
-- Assumes nothing.
use Rattle.std.specs.Prelude.{false, ◌≡◌, List, ℕ, length}
use Rattle.reader.specs.Reader.{ReadAnswer, Reads}
use Rattle.terms.specs.Terms.{naming}
use Rattle.report.specs.Line.{line_of}

pub record Prints (packet line : List ℕ) : Type 0 where
  pub entry : List ℕ
  pub exit : List ℕ
  pub answer : ReadAnswer
  pub lent : length entry ≡ 65536
  pub reads : Reads (naming 2 false) packet entry answer exit
  pub is : line ≡ line_of answer
