-- At 300 bps nothing changed when packets came to have up to four sections: there a packet has one, and every statement about it is the one that stood
-- before, whatever number of header bits is named. A call that names none is one that names 1.
-- Assumes nothing.
use Rattle.std.specs.Prelude.{Bool, false, List, ◌↔◌, ◌≡◌, ℕ, ◌+◌, ◌≤◌, length, Err}
use Rattle.header.specs.declared.Format.{Format}
use Rattle.sections.specs.Sections.{besides}
use Rattle.packet.specs.Packet.{whole_length}
use Rattle.refusals.specs.declared.ExamineRefusal.TheVariants.{Checksum}
use Rattle.refusals.specs.declared.ReadRefusal.TheVariants.{Packet}
use Rattle.terms.specs.declared.Terms.{Terms}
use Rattle.terms.specs.Terms.{MayMend, naming}
use Rattle.examine.specs.declared.Reading.{Reading}
use Rattle.examine.specs.Examine.{ExamineAnswer, Allowed, Accepts, Examines}
use Rattle.reader.specs.Reader.{ReadAnswer, Reads}
use Rattle.writer.specs.Writer.{WriteAnswer, Writes}
use Rattle.demands.specs.Makers.{Made}
use Rattle.at_300.specs.OneSection.Demand3.{Damaged}
use Rattle.at_300.specs.OneSection.Examine as one-section
use Rattle.at_300.specs.OneSection.Makers as one-section-makers
use Rattle.at_300.specs.OneSection.OneAnswer.{NothingAfter}
use Rattle.at_300.specs.OneSection.Packet.{naming as before}
use Rattle.at_300.specs.OneSection.Reader as one-section-reader
use Rattle.at_300.specs.OneSection.Writer as one-section-writer

-- the terms of a call at 300 bps that names this number of header bits
abbrev pub now : ℕ → Terms
now mend = naming mend false

-- one sentence for each pair: it is now what it was before
pub record At300 (mend : ℕ) : Type 0 where
  -- what is found out about a packet,
  pub examines : (packet : List ℕ) (answer : ExamineAnswer)
      → Examines (now mend) packet answer ↔ one-section.Examines (before mend) packet answer
  -- what the reader answers, and what stands in the text buffer afterwards,
  pub reads : (packet entry : List ℕ) (answer : ReadAnswer) (exit : List ℕ)
      → Reads (now mend) packet entry answer exit ↔ one-section-reader.Reads (before mend) packet entry answer exit
  -- what the writer answers, and what stands in the packet buffer afterwards,
  pub writes : (number : ℕ) (sync : Bool) (text entry : List ℕ) (answer : WriteAnswer) (exit : List ℕ)
      → Writes (now mend) number sync text entry answer exit
      ↔ one-section-writer.Writes (before mend) number sync text entry answer exit
  -- which packets are allowed, and with what they are accepted,
  pub allowed : (packet : List ℕ) (format : Format) (header : ℕ) (text : List ℕ)
      → Allowed (now mend) packet format header text ↔ one-section.Allowed (before mend) packet format header text
  pub accepts : (packet : List ℕ) (reading : Reading) (text : List ℕ)
      → Accepts (now mend) packet reading text ↔ one-section.Accepts (before mend) packet reading text
  -- what any maker could have built,
  pub made : (format : Format) (sync : Bool) (text packet : List ℕ)
      → Made (now mend) format sync text packet ↔ one-section-makers.Made (before mend) format sync text packet
  -- and refusal 6, whose number is the section's now, has 0.
  pub examined-six : (packet : List ℕ) (section : ℕ) → Examines (now mend) packet (Err (Checksum section)) → section ≡ 0
  pub read-six : (packet entry exit : List ℕ) (section : ℕ) → Reads (now mend) packet entry (Err (Packet (Checksum section))) exit → section ≡ 0
  -- A packet has 6 bytes more than its data, which is what `used` and the writer's lengths say;
  pub whole_length_lem : (n : ℕ) → 1 ≤ n → n ≤ 4000 → whole_length n ≡ n + 6
  -- what came for section 0 is all that came, so that demand 3 says of damage what it said.
  pub all-that-came : (carried came : List ℕ) → 1 ≤ length carried → length carried ≤ 4000 → besides carried 0 came ≡ came
  pub damaged : MayMend mend → Damaged (before mend)
  -- What holds 6 bytes more than the header's length, be that too long for a packet, is answered alike whatever follows.
  pub nothing-after : NothingAfter (before mend)
