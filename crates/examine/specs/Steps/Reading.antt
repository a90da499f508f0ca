-- Tests 17 and 1 to 5, as functions answer them.
-- Assumes nothing.
use Rattle.std.specs.Prelude.{List, [], ◌≡◌, ℕ, Ok, Err}
use Rattle.header.specs.declared.Format.{Format}
use Rattle.terms.specs.declared.Terms.{Terms}
use Rattle.examine.specs.declared.Reading.{Reading}
use Rattle.examine.specs.Examine.{ExamineAnswer, Framed, Refuses, reading_of}
use Rattle.packet.specs.Packet.{received}

-- they are passed: the header that the packet is read as, and its reading, with no text and no codes yet
pub record HeaderFound (terms : Terms) (packet : List ℕ) (reading : Reading) : Type 0 where
  pub format : Format
  pub header : ℕ
  pub framed : Framed terms packet format header
  pub is : reading ≡ reading_of format header (received packet) [] 0

abbrev pub FindsHeader : Terms → List ℕ → ExamineAnswer → Type 0
FindsHeader terms packet (Ok reading) = HeaderFound terms packet reading
FindsHeader terms packet (Err refusal) = Refuses terms packet refusal
