-- What the program for the bench prints of a packet (RULES, Judging): the line of what is answered where one header bit and 300 bps are named.
-- Assumes nothing.
use Rattle.std.specs.Prelude.{false, ◌≡◌, List, ℕ}
use Rattle.judge.specs.Judge.{JudgeAnswer, Judges}
use Rattle.terms.specs.Terms.{naming}
use Rattle.judge_report.specs.Line.{line_of}

pub record Prints (packet line : List ℕ) : Type 0 where
  pub answer : JudgeAnswer
  pub judges : Judges (naming 1 false) packet answer
  pub is : line ≡ line_of answer
