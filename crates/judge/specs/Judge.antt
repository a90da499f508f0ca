-- What is answered of another maker's packet (RULES, Judging): how its data compares with what our writer would have sent for the text that it carries; or,
-- where it is not accepted, the reader's refusal. Without a text buffer 8 does not occur.
-- Assumes nothing.
use Rattle.std.specs.Prelude.{List, ℕ, Result, Ok, Err}
use Rattle.header.specs.declared.Format.{Format}
use Rattle.apart.specs.declared.Judgement.{Judgement}
use Rattle.apart.specs.Comparison.{Against}
use Rattle.formats.specs.Data.{data_of}
use Rattle.packet.specs.Packet.{data_in}
use Rattle.refusals.specs.declared.ExamineRefusal.{ExamineRefusal}
use Rattle.terms.specs.declared.Terms.{Terms}
use Rattle.examine.specs.Examine.{Refuses, Allowed}

-- the packet is accepted with a text in a format, and its data is held against what our writer sends for that text in that format
pub record HeldAgainst (terms : Terms) (packet : List ℕ) (judgement : Judgement) : Type 0 where
  pub format : Format
  pub header : ℕ
  pub text : List ℕ
  pub allowed : Allowed terms packet format header text
  pub against : Against (data_in header packet) (data_of format text) judgement

-- the answer: how the data compares, or the refusal
abbrev pub JudgeAnswer : Type 0
JudgeAnswer = Result Judgement ExamineRefusal

abbrev pub Judges : Terms → List ℕ → JudgeAnswer → Type 0
Judges terms packet (Ok judgement) = HeldAgainst terms packet judgement
Judges terms packet (Err refusal) = Refuses terms packet refusal
