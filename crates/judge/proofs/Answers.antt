-- What is answered of a packet that was read into a buffer with room for every text.
-- Assumes nothing.
use mathlib.Core.List.{List}
use mathlib.Core.Logic.{inr}
use mathlib.Core.Path.{◌≡◌, ap, subst⁻¹, subst₂, ◌∙◌}
use Prim.Native.Nat.{ℕ, ◌≤◌}
use native.Mathlib.Decide.{dec_le}
use native.Mathlib.Omega.{arith}
use lib.ListN.{length, take, drop, length-append, length-drop}
use lib.Seq.{take_at}
use Rattle.std.specs.Prelude.{Ok, Err}
use Rattle.header.specs.Valid.{length_in}
use Rattle.formats.specs.Data.{Carries, data_of}
use Rattle.sections.proofs.Found.{joined_length}
use Rattle.packet.specs.Packet.{whole_length, data_in}
use Rattle.refusals.specs.declared.ExamineRefusal.{ExamineRefusal}
use Rattle.refusals.specs.declared.ExamineRefusal.TheVariants.{OtherLength, CutOff}
use Rattle.refusals.specs.declared.ReadRefusal.{ReadRefusal}
use Rattle.refusals.specs.declared.ReadRefusal.TheVariants.{Packet, NoRoom}
use Rattle.refusals.proofs.Known.{before-room}
use Rattle.terms.specs.declared.Terms.{Terms}
use Rattle.terms.specs.Terms.{OnePacket}
use Rattle.examine.specs.declared.Reading.{Reading}
use Rattle.examine.specs.Examine.{Refuses, Accepts}
use Rattle.examine.proofs.AcceptedData as accepted
use Rattle.examine.proofs.ExamineAnswers.{data-there}
use Rattle.reader.specs.Reader.{ReadRefuses, Reads}
use Rattle.reader.proofs.ReadOnce.{packet-refused}
use Rattle.apart.specs.declared.Judgement.{Judgement}
use Rattle.apart.specs.Comparison.{Against}
use Rattle.judge.specs.Judge.{HeldAgainst}
use Rattle.judge.specs.Steps.Judging.{longest_of, Fits, RefusesAs}
use Rattle.judge.proofs.Longest.{text-few}

module _ (terms : Terms) (packet entry exit : List ℕ) (bytes : OnePacket terms.most) where
  -- ---- a packet that was read

  module _ (reading : Reading) (read : Reads terms packet entry (Ok reading) exit) where
    abbrev text : List ℕ
    text = read.0

    abbrev a : Accepts terms packet reading text
    a = read.1

    abbrev count : ℕ
    count = reading.text_length

    long : count ≡ length text
    long = ap (λ (r : Reading). r.text_length) a.is

    pub within : count ≤ length exit
    within = omega (arith, long, ap length read.3, length-append text (drop (length text) entry))

    -- its text, as the code takes it
    part : take count exit ≡ text
    part = ap (take count) read.3 ∙ take_at text (drop (length text) entry) count (omega (arith, long))

    abbrev rest : List ℕ
    rest = accepted.rest terms packet bytes reading text a

    -- and its data
    pub fits : Fits 16000 reading.format reading.data_length rest (take count exit)
    fits = record {
      few = accepted.short terms packet bytes reading text a;
      whole = accepted.all_there terms packet bytes reading text a;
      carries =
          subst⁻¹ (λ (t : List ℕ). Carries reading.format t (accepted.data-in terms packet bytes reading text a)) part
          (accepted.carried terms packet bytes reading text a);
    }

    -- what is judged of them, said of the packet
    pub held : (judgement : Judgement) → Against (accepted.data-in terms packet bytes reading text a) (data_of reading.format (take count exit)) judgement
        → HeldAgainst terms packet judgement
    held judgement against =
        let there = data-there packet a.header reading.data_length (accepted.data-long terms packet bytes reading text a) in
        let format = ap (λ (r : Reading). r.format) a.is in
        record {
          format = a.format;
          header = a.header;
          text = text;
          allowed = a.allowed;
          against =
              subst₂ (λ (l m : List ℕ). Against l m judgement) there (λ i. data_of (format i) (part i)) against;
        }

  -- ---- a packet that was not: never for want of room

  module _ (room : longest_of terms.most ≤ length entry) where
    never-short : (needed : ℕ) → ReadRefuses terms packet (length entry) (NoRoom needed) → ⊥
    unfolding data_in
    never-short needed p = pick (dec_le (length_in header) terms.most) (dec_le (whole_length (length_in header)) (length packet))
      where
        header : ℕ
        header = p.fault.0

        pick : Dec (length_in header ≤ terms.most) → Dec (whole_length (length_in header) ≤ length packet) → ⊥
        pick (no many) whole = p.first (Packet OtherLength) (before-room OtherLength) (header, p.fault.1, inr (omega arith))
        pick (yes few) (no cut) = p.first (Packet CutOff) (before-room CutOff) (header, p.fault.1, omega arith)
        pick (yes few) (yes whole) =
            let format = p.fault.2.0 in
            let text = p.fault.2.2.0 in
            let size : length (data_in header packet) ≡ length_in header = joined_length (length_in header) (drop 4 packet) (omega (arith, length-drop 4 packet)) in
            omega (
              arith,
              room,
              size,
              text-few format text (data_in header packet) p.fault.2.2.1,
              p.fault.2.2.2,
              p.fault.2.2.3,
            )

    pub refused : (refusal : ReadRefusal) → Reads terms packet entry (Err refusal) exit → (told : ExamineRefusal) → RefusesAs refusal told
        → Refuses terms packet told
    refused (Packet refusal) read told same = subst⁻¹ (Refuses terms packet) same (packet-refused terms packet (length entry) refusal read.0)
    refused (NoRoom needed) read told same = absurd (never-short needed read.0)
