-- What is answered under a header that is found, by what the checksums and the data say.
-- Assumes nothing.
use Rattle.std.specs.Prelude.{Result, Ok, Err, IsErrAnd}
use mathlib.Core.List.{List}
use mathlib.Core.Path.{◌≡◌, sym, ap, ap₂, subst, subst⁻¹, subst₂, ◌∙◌}
use Prim.Native.Nat.{ℕ, ◌-◌, ◌≤◌}
use native.Mathlib.Omega.{arith}
use lib.ListN.{length, take, drop, length-drop}
use lib.Seq.{take_all}
use Rattle.header.specs.declared.Format.{Format}
use Rattle.header.specs.Valid.{length_in}
use Rattle.sections.specs.Sections.{RightSums, FirstWrong, sent_length, joined}
use Rattle.codes.specs.Steps.Measure.{TakesApart}
use Rattle.codes.specs.declared.Extent.{Extent}
use Rattle.codes.specs.declared.MalformedAt.{MalformedAt}
use Rattle.codes.specs.declared.Unread.{Unread}
use Rattle.codes.specs.declared.Unread.TheVariants.{Malformed, TooLong}
use Rattle.formats.specs.Data.{CarriesIn, UnreadableAfter}
use Rattle.refusals.specs.declared.ExamineRefusal.{ExamineRefusal}
use Rattle.refusals.specs.declared.ExamineRefusal.TheVariants.{Checksum}
use Rattle.refusals.specs.Steps.Passed.{unread_as}
use Rattle.terms.specs.declared.Terms.{Terms}
use Rattle.examine.specs.declared.Reading.{Reading}
use Rattle.examine.specs.Examine.{ExamineAnswer, Refuses, Accepts, Examines}
use Rattle.packet.specs.Packet.{whole_length, data_in, Summed, FirstUnsummed}
use Rattle.examine.specs.Steps.Reading.{HeaderFound}
use Rattle.terms.specs.Terms.{OnePacket, MayBeNamed}
use Rattle.examine.proofs.ExamineStages.{clear-six, clear-seven}

-- all behind the header, as the code takes it
pub rest-is : (packet : List ℕ) → take (length packet - 4) (drop 4 packet) ≡ drop 4 packet
rest-is packet = take_all (length packet - 4) (drop 4 packet) (omega (arith, length-drop 4 packet))

pub rest-long : (packet : List ℕ) (n : ℕ) → whole_length n ≤ length packet → sent_length n ≤ length (take (length packet - 4) (drop 4 packet))
rest-long packet n whole = omega (arith, ap length (rest-is packet), length-drop 4 packet)

-- and the data in it
pub data-there : (packet : List ℕ) (header n : ℕ) → n ≡ length_in header → joined n (take (length packet - 4) (drop 4 packet)) ≡ data_in header packet
unfolding data_in
data-there packet header n e = ap₂ joined e (rest-is packet)

-- a refusal, as `?` hands it on
pub refused-on : (terms : Terms) (packet : List ℕ) (refusal : ExamineRefusal) → Refuses terms packet refusal → (answer : ExamineAnswer)
    → IsErrAnd answer (λ (r : ExamineRefusal). r ≡ refusal) → Examines terms packet answer
refused-on terms packet refusal p (Ok reading) none = absurd none
refused-on terms packet refusal p (Err r) same = subst⁻¹ (Refuses terms packet) same p

module _ (terms : Terms) (bytes : OnePacket terms.most) (packet : List ℕ) (found : Reading) (h : HeaderFound terms packet found) where
  named : MayBeNamed terms
  named = record { bits = h.framed.bits; bytes = bytes }

  pub long : found.data_length ≡ length_in h.header
  long = ap (λ (r : Reading). r.data_length) h.is

  pub whole : whole_length found.data_length ≤ length packet
  whole = omega (arith, long, h.framed.whole)

  pub short : found.data_length ≤ 16000
  short = omega (arith, long, h.framed.few, bytes)

  abbrev rest : List ℕ
  rest = take (length packet - 4) (drop 4 packet)

  pub all_there : sent_length found.data_length ≤ length rest
  all_there = rest-long packet found.data_length whole

  -- what the data comes to
  abbrev Comes : Result Extent Unread → Type 0
  Comes = TakesApart (CarriesIn found.format (joined found.data_length rest)) (UnreadableAfter found.format (joined found.data_length rest)) found.data_length

  -- said under the header
  under : (outcome : Result Extent Unread) → Comes outcome
      → TakesApart (CarriesIn h.format (data_in h.header packet)) (UnreadableAfter h.format (data_in h.header packet)) found.data_length outcome
  under outcome taken =
      subst₂
      (λ (k : Format) (l : List ℕ). TakesApart (CarriesIn k l) (UnreadableAfter k l) found.data_length outcome)
      (ap (λ (r : Reading). r.format) h.is) (data-there packet h.header found.data_length long) taken

  -- ---- the answers

  pub refused-sum : (k : ℕ) → FirstWrong found.data_length rest k → (section : ℕ) → section ≡ k → Refuses terms packet (Checksum section)
  refused-sum k bad section e =
      record {
        fault = (
          h.header,
          h.framed.near,
          subst (FirstUnsummed h.header packet) (sym e) (subst₂ (λ (n : ℕ) (l : List ℕ). FirstWrong n l k) long (rest-is packet) bad),
        );
        first = clear-six terms packet named h.header h.format h.framed;
      }

  module _ (right : RightSums found.data_length rest) where
    summed : Summed h.header packet
    summed = subst₂ RightSums long (rest-is packet) right

    pub refused-data : (unread : Unread) → Comes (Err unread) → Refuses terms packet (unread_as unread)
    refused-data (Malformed at) taken =
        record {
          fault = (h.header, h.framed.near, (h.format, h.framed.typed, (under (Err (Malformed at)) taken).1));
          first = clear-seven terms packet named h.header h.format h.framed summed;
        }
    refused-data TooLong many = absurd (let no' : ⊥ = omega (arith, many, short) in no')

    -- the same where it is told apart by hand: the codes with what they must be, so that wrong ones are refused where they stand
    pub refused-came : (outcome : Result Extent Unread) → Comes outcome → (at : MalformedAt) → outcome ≡ Err (Malformed at) → (codes : ℕ) → codes ≡ at.codes
        → Refuses terms packet (unread_as (Malformed (record { bit = at.bit; codes = codes })))
    refused-came outcome taken at e codes d =
        subst (λ (n : ℕ). Refuses terms packet (unread_as (Malformed (record { bit = at.bit; codes = n })))) (sym d)
        (refused-data (Malformed at) (subst Comes e taken))

    -- the reading that was found, with the text's length and the codes
    pub accepted : (text : List ℕ) (k : ℕ) → CarriesIn h.format (data_in h.header packet) text k → (n codes : ℕ) → n ≡ length text → codes ≡ k
        → Accepts terms packet
        (record {
          format = found.format;
          sync = found.sync;
          mended = found.mended;
          mask = found.mask;
          codes = codes;
          data_length = found.data_length;
          text_length = n;
          used = found.used;
        }) text
    accepted text k carries n codes e d =
        record {
          format = h.format;
          header = h.header;
          allowed = record { framed = h.framed; summed = summed; carries = carries.0 };
          is = λ i.
              record {
                format = (h.is i).format;
                sync = (h.is i).sync;
                mended = (h.is i).mended;
                mask = (h.is i).mask;
                codes = (d ∙ sym carries.1) i;
                data_length = (h.is i).data_length;
                text_length = e i;
                used = (h.is i).used;
              };
        }

    -- the same of what was measured, with the text that was measured
    pub accepted-measured : (extent : Extent) → Comes (Ok extent) → (codes n : ℕ) → codes ≡ extent.codes → n ≡ extent.characters
        → (text : List ℕ)
        × Accepts terms packet
        (record {
          format = found.format;
          sync = found.sync;
          mended = found.mended;
          mask = found.mask;
          codes = codes;
          data_length = found.data_length;
          text_length = n;
          used = found.used;
        }) text
    accepted-measured extent taken codes n d e =
        let there = (under (Ok extent) taken).1 in (there.0, accepted there.0 extent.codes there.2 n codes (e ∙ sym there.1) d)
