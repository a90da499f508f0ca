-- The writer's tests, one after the other: before each, no condition of an earlier turn holds.
-- Assumes nothing.
use mathlib.Core.List.{List}
use mathlib.Core.Path.{◌≡◌, refl, sym, ap, ◌∙◌, subst}
use Prim.Native.Nat.{ℕ, suc, ◌≤◌, ◌<◌}
use native.Mathlib.Omega.{arith}
use lib.ListN.{length, get_or}
use Rattle.header.specs.declared.Format.{Format}
use Rattle.header.specs.Formats.{format_number}
use Rattle.header.proofs.Formats.{one_number}
use Rattle.formats.specs.Data.{Uncoded, AllCoded, data_of}
use Rattle.refusals.specs.Match.{turn_in, writer_order, writer_turn}
use Rattle.refusals.proofs.Known.{write_from, write_known, write-at-turn}
use Rattle.refusals.proofs.Refused as refused
use Rattle.terms.specs.declared.Terms.{Terms}
use Rattle.writer.specs.Writer.{InFormat, WriteFault}

-- a condition, of the format that is named
pub in-format : (number : ℕ) (Condition : Format → Type 0) (format : Format) → format_number format ≡ number → InFormat number Condition → Condition format
in-format number Condition format e (other, e', said) = subst Condition (one_number other format (e' ∙ sym e)) said

module _ (terms : Terms) (number : ℕ) (text : List ℕ) (room : ℕ) where
  -- no condition that is tested before that of this number holds
  abbrev pub Clear : ℕ → Type 0
  Clear = refused.Clear write_known (WriteFault terms number text room) writer_turn

  next : (k l : ℕ) → get_or writer_order (writer_turn k) 0 ≡ k → writer_turn l ≡ suc (writer_turn k) → Clear k
      → ((v c : ℕ) → WriteFault terms number text room (write_from (k, v, c)) → ⊥) → Clear l
  next k l there =
      refused.clear_next write_known (WriteFault terms number text room) writer_turn k l (λ r e. write-at-turn r (writer_turn k) e ∙ there)

  pub clear-twelve : Clear 12
  unfolding turn_in
  clear-twelve other lt f = omega arith

  -- the format is named
  module _ (format : Format) (is : format_number format ≡ number) where
    pub clear-ten : Clear 10
    unfolding write_from turn_in
    clear-ten = next 12 10 refl refl clear-twelve (λ v c f. f format is)

    pub clear-nine : 0 < length text → Clear 9
    unfolding write_from turn_in
    clear-nine some = next 10 9 refl refl clear-ten (λ v c f. omega (arith, ap length f))

    pub clear-eleven : 0 < length text → AllCoded format text → Clear 11
    unfolding write_from turn_in
    clear-eleven some coded =
        next 9 11 refl refl (clear-nine some)
        (λ v c f. let uncoded = in-format number (λ (k : Format). Uncoded k text v) format is f in uncoded.none (coded v uncoded.there))

    pub clear-eight : 0 < length text → AllCoded format text → length (data_of format text) ≤ terms.most → Clear 8
    unfolding write_from turn_in
    clear-eight some coded few =
        next 11 8 refl refl (clear-eleven some coded)
        (λ v c f. let long = in-format number (λ (k : Format). terms.most < length (data_of k text)) format is f in omega arith)
