-- The writer's promise leaves one answer and one content of the packet buffer.
-- Assumes nothing.
use mathlib.Core.Bool.{Bool}
use mathlib.Core.List.{List, ◌++◌}
use mathlib.Core.Path.{◌≡◌, refl, sym, ap, ap₂, ◌∙◌}
use Prim.Native.Nat.{ℕ, ◌<◌}
use native.Mathlib.Omega.{arith}
use lib.ListN.{length, drop}
use Rattle.std.specs.Prelude.{Ok, Err}
use Rattle.header.specs.declared.Format.{Format}
use Rattle.header.proofs.Formats.{one_number}
use Rattle.codes.proofs.OneAnswer.{first_one}
use Rattle.formats.specs.Data.{coded, Uncoded, data_of}
use Rattle.packet.specs.Packet.{whole_length}
use Rattle.refusals.specs.declared.WriteRefusal.{WriteRefusal}
use Rattle.refusals.specs.declared.WriteRefusal.TheVariants.{OtherFormat, Empty, NoCode, TooLong, NoRoom}
use Rattle.refusals.specs.Match.{writer_turn}
use Rattle.refusals.specs.Refusals.{number_in, write_told}
use Rattle.refusals.proofs.Known.{write_from, write_known, write-one-number}
use Rattle.refusals.proofs.Refused.{match-one}
use Rattle.terms.specs.declared.Terms.{Terms}
use Rattle.writer.specs.Writer.{WriteAnswer, WriteFault, WriteRefuses, WriteAccepts, Writes, our_packet}
use Rattle.writer.proofs.WriteStages.{in-format}

module _ (terms : Terms) (number : ℕ) (text : List ℕ) (room : ℕ) where
  -- a refusal of one number is told one way: 9 with the index, 8 with the packet's length, the others with none
  one_told : (r : WriteRefusal) (v c : ℕ) → WriteFault terms number text room r → WriteFault terms number text room (write_from (number_in (write_told r), v, c))
      → r ≡ write_from (number_in (write_told r), v, c)
  unfolding write_from
  one_told OtherFormat v c f g = refl
  one_told Empty v c f g = refl
  one_told (NoCode i) v c f g =
      ap {B = WriteRefusal} NoCode (first_one (coded f.0) text i v f.2 (in-format number (λ (k : Format). Uncoded k text v) f.0 f.1 g))
  one_told TooLong v c f g = refl
  one_told (NoRoom n) v c f g =
      ap {B = WriteRefusal} NoRoom
      (f.2.0 ∙ sym (in-format number (λ (k : Format). (v ≡ whole_length (length (data_of k text))) × (room < v)) f.0 f.1 g).0)

  pub write-refuses-one : (r s : WriteRefusal) → WriteRefuses terms number text room r → WriteRefuses terms number text room s → r ≡ s
  write-refuses-one = match-one write_known (WriteFault terms number text room) writer_turn write-one-number one_told

  -- what is written meets no refusal's condition
  pub writes-no-fault : (format : Format) (n : ℕ) → WriteAccepts terms number text room format n → (r : WriteRefusal) → WriteFault terms number text room r → ⊥
  writes-no-fault format n a OtherFormat f = f format a.named
  writes-no-fault format n a Empty f = omega (arith, a.some, ap length f)
  writes-no-fault format n a (NoCode i) f =
      let uncoded = in-format number (λ (k : Format). Uncoded k text i) format a.named f in uncoded.none (a.coded i uncoded.there)
  writes-no-fault format n a TooLong f =
      let long = in-format number (λ (k : Format). terms.most < length (data_of k text)) format a.named f in omega (arith, a.few)
  writes-no-fault format n a (NoRoom m) f =
      let short = in-format number (λ (k : Format). (m ≡ whole_length (length (data_of k text))) × (room < m)) format a.named f in
      omega (arith, a.fits, a.held, short.0, short.1)

-- one answer and one content
pub writes_one : (terms : Terms) (number : ℕ) (sync : Bool) (text entry : List ℕ) (a b : WriteAnswer) (x y : List ℕ)
    → Writes terms number sync text entry a x → Writes terms number sync text entry b y → (a ≡ b) × (x ≡ y)
writes_one terms number sync text entry (Ok m) (Ok n) x y (k, p, e) (l, q, f) =
    let same : k ≡ l = one_number k l (p.named ∙ sym q.named) in
    let long : m ≡ n = p.fits ∙ ap (λ (format : Format). whole_length (length (data_of format text))) same ∙ sym q.fits in
    (ap {B = WriteAnswer} Ok long, e ∙ ap₂ (λ (format : Format) (length' : ℕ). our_packet format sync text ++ drop length' entry) same long ∙ sym f)
writes_one terms number sync text entry (Ok m) (Err s) x y (k, p, e) (q, f) =
    absurd (writes-no-fault terms number text (length entry) k m p s q.fault)
writes_one terms number sync text entry (Err r) (Ok n) x y (p, e) (l, q, f) =
    absurd (writes-no-fault terms number text (length entry) l n q r p.fault)
writes_one terms number sync text entry (Err r) (Err s) x y (p, e) (q, f) =
    (ap {B = WriteAnswer} Err (write-refuses-one terms number text (length entry) r s p q), e ∙ sym f)
