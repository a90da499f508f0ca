-- What is said of the writer, under terms of no more than 4,000 data bytes: as it was said of one section.
-- Assumes nothing.
use mathlib.Core.Bool.{Bool}
use mathlib.Core.List.{List, [], ◌∷◌, ◌++◌}
use mathlib.Core.Logic.Iff
use mathlib.Core.Logic.{◌↔◌}
use mathlib.Core.Path.{◌≡◌, refl, sym, ap, ◌∙◌}
use Prim.Native.Nat.{ℕ, ◌≤◌, ◌<◌}
use native.Mathlib.Decide.{dec_le}
use native.Mathlib.Omega.{arith}
use lib.ListN.{length, drop}
use Rattle.std.specs.Prelude.{Ok, Err}
use Rattle.header.specs.declared.Format.{Format}
use Rattle.header.specs.Formats.{format_number}
use Rattle.codes.proofs.CodedTexts.{coded-below}
use Rattle.formats.specs.Data.{coded, data_of}
use Rattle.formats.proofs.Formats.{data-some}
use Rattle.packet.specs.Packet.{header_for}
use Rattle.refusals.specs.declared.WriteRefusal.{WriteRefusal}
use Rattle.refusals.specs.declared.WriteRefusal.TheVariants.{OtherFormat, Empty, NoCode, TooLong, NoRoom}
use Rattle.refusals.specs.Match.{turn_in, writer_turn}
use Rattle.refusals.specs.Refusals.{write_told}
use Rattle.terms.specs.declared.Terms.{Terms}
use Rattle.writer.specs.Writer.{WriteAnswer, our_packet, WriteFault, WriteRefuses, WriteAccepts, Writes}
use Rattle.at_300.specs.OneSection.Writer as one
use Rattle.at_300.specs.OneSection.Writer.{our_packet as one_our_packet}
use Rattle.at_300.proofs.FirstMatches.{NoneBelow, turn_of, first_matches}
use Rattle.at_300.proofs.Parts.{whole_same, packet-same}

nonempty : (text : List ℕ) → (text ≡ [] → ⊥) → 0 < length text
nonempty [] some = absurd (some refl)
nonempty (c ∷ text) some = omega arith

our-packet-same : (format : Format) (sync : Bool) (text : List ℕ) → 1 ≤ length (data_of format text) → length (data_of format text) ≤ 4000
    → our_packet format sync text ≡ one_our_packet format sync text
unfolding our_packet one_our_packet
our-packet-same format sync text = packet-same (header_for format sync (length (data_of format text))) (data_of format text)

module _ (terms : Terms) (small : terms.most ≤ 4000) (number : ℕ) (text : List ℕ) (room : ℕ) where
  -- 1 to 4,000 data bytes, where the conditions of 10, 9 and 11 do not hold
  bounds : (format : Format) → format_number format ≡ number → (WriteFault terms number text room Empty → ⊥)
      → ((index : ℕ) → WriteFault terms number text room (NoCode index) → ⊥) → (WriteFault terms number text room TooLong → ⊥)
      → (1 ≤ length (data_of format text)) × (length (data_of format text) ≤ 4000)
  bounds format is some has short = (
    data-some format text (nonempty text some)
        (coded-below (coded format) text (λ index none. has index (format, is, none)) (length text) (omega arith)),
    pick (dec_le (length (data_of format text)) terms.most),
  )
    where
      pick : Dec (length (data_of format text) ≤ terms.most) → length (data_of format text) ≤ 4000
      pick (yes few) = omega arith
      pick (no many) = absurd (short (format, is, omega arith))

  conditions-same : (r : WriteRefusal)
      → NoneBelow WriteRefusal write_told writer_turn (WriteFault terms number text room) (turn_of WriteRefusal write_told writer_turn r)
      → WriteFault terms number text room r ↔ one.WriteFault terms number text room r
  unfolding turn_in
  conditions-same OtherFormat none = Iff.rfl
  conditions-same Empty none = Iff.rfl
  conditions-same (NoCode index) none = Iff.rfl
  conditions-same TooLong none = Iff.rfl
  conditions-same (NoRoom needed) none = (
    λ (format, is, (e, short)).
        let b = bounds format is (none Empty (omega arith)) (λ index. none (NoCode index) (omega arith)) (none TooLong (omega arith)) in
        (format, is, (e ∙ whole_same (length (data_of format text)) b.0 b.1, short)),
    λ (format, is, (e, short)).
        let b = bounds format is (none Empty (omega arith)) (λ index. none (NoCode index) (omega arith)) (none TooLong (omega arith)) in
        (format, is, (e ∙ sym (whole_same (length (data_of format text)) b.0 b.1), short)),
  )

  pub write-refuses-same : (r : WriteRefusal) → WriteRefuses terms number text room r ↔ one.WriteRefuses terms number text room r
  write-refuses-same =
      first_matches WriteRefusal write_told writer_turn (WriteFault terms number text room) (one.WriteFault terms number text room) conditions-same

  module _ (format : Format) (n : ℕ) where
    accepts-before : WriteAccepts terms number text room format n → one.WriteAccepts terms number text room format n
    accepts-before a =
        record {
          named = a.named;
          some = a.some;
          coded = a.coded;
          few = a.few;
          fits = a.fits ∙ whole_same (length (data_of format text)) (data-some format text a.some a.coded) (omega (arith, a.few));
          held = a.held;
        }

    accepts-now : one.WriteAccepts terms number text room format n → WriteAccepts terms number text room format n
    accepts-now a =
        record {
          named = a.named;
          some = a.some;
          coded = a.coded;
          few = a.few;
          fits = a.fits ∙ sym (whole_same (length (data_of format text)) (data-some format text a.some a.coded) (omega (arith, a.few)));
          held = a.held;
        }

pub writes-same : (terms : Terms) → terms.most ≤ 4000 → (number : ℕ) (sync : Bool) (text entry : List ℕ) (answer : WriteAnswer) (exit : List ℕ)
    → Writes terms number sync text entry answer exit ↔ one.Writes terms number sync text entry answer exit
writes-same terms small number sync text entry (Ok n) exit = (
  λ (format, a, there). (
    format,
    accepts-before terms small number text (length entry) format n a,
    there
        ∙ ap (λ (l : List ℕ). l ++ drop n entry)
        (our-packet-same format sync text (data-some format text a.some a.coded) (omega (arith, a.few))),
  ),
  λ (format, a, there). (
    format,
    accepts-now terms small number text (length entry) format n a,
    there
        ∙ ap (λ (l : List ℕ). l ++ drop n entry)
        (sym (our-packet-same format sync text (data-some format text a.some a.coded) (omega (arith, a.few)))),
  ),
)
writes-same terms small number sync text entry (Err refusal) exit = (
  λ (p, same). ((write-refuses-same terms small number text (length entry) refusal).0 p, same),
  λ (p, same). ((write-refuses-same terms small number text (length entry) refusal).1 p, same),
)
