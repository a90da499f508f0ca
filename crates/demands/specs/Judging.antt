-- Judging other makers' transmitters (RULES, Judging): whether a packet's data is just what our writer would have sent for the text that it carries, where it
-- first departs from that, and how much longer it is.
-- Assumes nothing.
use Rattle.std.specs.Prelude.{Bool, List, [], ◌++◌, ◌↔◌, ◌≡◌, ℕ, ◌+◌, ◌≤◌, length, Ok, Err, Some, None}
use Rattle.bits.specs.Row.{bits, Bytes}
use Rattle.header.specs.declared.Format.{Format}
use Rattle.header.specs.declared.Format.TheVariants.{Open}
use Rattle.header.specs.Formats.{format_number}
use Rattle.apart.specs.Apart.{FirstApart}
use Rattle.formats.specs.Data.{Carries, data_of}
use Rattle.formats.specs.Waste.{times_at_most}
use Rattle.packet.specs.Packet.{data_in}
use Rattle.refusals.specs.declared.ExamineRefusal.{ExamineRefusal}
use Rattle.terms.specs.declared.Terms.{Terms}
use Rattle.terms.specs.Terms.{MayMend}
use Rattle.examine.specs.Examine.{ExamineAnswer, Allowed, Examines}
use Rattle.apart.specs.declared.Judgement.{Judgement}
use Rattle.apart.specs.Comparison.{Against}
use Rattle.judge.specs.Judge.{JudgeAnswer, Judges}
use Rattle.writer.specs.Writer.{our_packet, Writes}
use Rattle.demands.specs.Makers.{Made, Flipped, arriving}

-- "as ours", and no bytes more
abbrev pub just_ours : JudgeAnswer
just_ours = Ok (record { departs_at = None; more = 0 })

pub record Judging (terms : Terms) : Type 0 where
  -- One answer for every input.
  pub judges-one : (packet : List ℕ) (a b : JudgeAnswer) → Judges terms packet a → Judges terms packet b → a ≡ b
  -- The reader's refusals stay, with what comes with them.
  pub refused-as-read : (packet : List ℕ) (judged : JudgeAnswer) (examined : ExamineAnswer) → Judges terms packet judged → Examines terms packet examined
      → (refusal : ExamineRefusal) → (judged ≡ Err refusal) ↔ (examined ≡ Err refusal)
  -- Of a packet that the document and our limits allow with a text: yes exactly when the data bytes are the writer's for that text;
  pub yes-exactly : (packet : List ℕ) (judgement : Judgement) → Judges terms packet (Ok judgement) → (format : Format) (header : ℕ) (text : List ℕ)
      → Allowed terms packet format header text → (judgement.departs_at ≡ None) ↔ (data_in header packet ≡ data_of format text)
  -- else the bit is the first at which the two rows of bits differ, and it lies within both;
  pub first-departs : (packet : List ℕ) (judgement : Judgement) → Judges terms packet (Ok judgement) → (format : Format) (header : ℕ) (text : List ℕ)
      → Allowed terms packet format header text → (bit : ℕ)
      → (judgement.departs_at ≡ Some bit) ↔ FirstApart (bits (data_in header packet)) (bits (data_of format text)) bit
  -- (neither is the front of the other, whoever made them)
  pub neither-front : (format : Format) (text a rest : List ℕ) → Carries format text a → Carries format text (a ++ rest) → rest ≡ []
  -- and the number of bytes more is the difference of the two lengths, of which the writer's is never the greater.
  pub more-exactly : (packet : List ℕ) (judgement : Judgement) → Judges terms packet (Ok judgement) → (format : Format) (header : ℕ) (text : List ℕ)
      → Allowed terms packet format header text → length (data_in header packet) ≡ length (data_of format text) + judgement.more
  -- A packet that any maker could have built of a text is judged, whatever header bits are flipped within what is named: that maker's data against the
  -- writer's for the text.
  pub made-judged : MayMend terms.mend → (format : Format) (sync : Bool) (text packet : List ℕ) (made : Made terms format sync text packet) (word : ℕ)
      → Flipped terms packet word → (after : List ℕ) (answer : JudgeAnswer) → Judges terms (arriving word packet after) answer
      → (judgement : Judgement) × (answer ≡ Ok judgement) × Against made.carried (data_of format text) judgement
  -- One that our writer made, judged at the rate that it was made at or at a higher one, is as ours whatever header bits are flipped within what is named.
  pub ours-as-ours : MayMend terms.mend → (other : Terms) → other.most ≤ terms.most → (format : Format) (sync : Bool) (text entry exit : List ℕ) (n : ℕ)
      → Writes other (format_number format) sync text entry (Ok n) exit → (word : ℕ) → Flipped terms (our_packet format sync text) word
      → (after : List ℕ) (answer : JudgeAnswer) → Judges terms (arriving word (our_packet format sync text) after) answer → answer ≡ just_ours
  -- Open is always as ours;
  pub open-as-ours : (packet : List ℕ) (header : ℕ) (text : List ℕ) → Allowed terms packet Open header text → (answer : JudgeAnswer)
      → Judges terms packet answer → answer ≡ just_ours
  -- and so are Numeric and SHEF, in which there is one way too.
  pub one-way-as-ours : (format : Format) → times_at_most format ≡ 1 → (packet : List ℕ) (header : ℕ) (text : List ℕ) → Bytes (data_in header packet)
      → Allowed terms packet format header text → (answer : JudgeAnswer) → Judges terms packet answer → answer ≡ just_ours
