-- The two codes of a byte passed.
-- Assumes nothing.
use mathlib.Core.List.{List}
use mathlib.Core.Path.{◌≡◌, sym, ap, ap₂, subst, subst⁻¹, subst₂, ◌∙◌}
use Prim.Native.Nat.{ℕ, ◌+◌, ◌-◌, ◌*◌, ◌/◌, ◌%◌, ◌≤◌, ◌<◌}
use native.Mathlib.Omega.{arith}
use lib.Bits.{bit_and, and_zero_l}
use lib.ListN.{length, get_or, drop, drop_of_length-le}
use Rattle.numeric.specs.Steps.Text.{spelled, text_of}
use Rattle.numeric_reader.specs.declared.Passed.{Passed}
use Rattle.numeric_reader.specs.Steps.Reached.{Reached, Passes}
use Rattle.numeric_reader.specs.Steps.Signs.{sign, paired, entries, first_of, second_of, Entry}
use Rattle.numeric_reader.proofs.EntryLaws.{entry_first, entry-second, entry-held, common, apart-before, apart-within, pair-within, spelled-entry}
use Rattle.numeric_reader.proofs.Pairs.{pairs-some}
use Rattle.numeric_reader.proofs.Reading.{alone, pair, reached-none, reached-end}

module _ (before : ℕ) (held : before / 8 ≡ 1) (entry : ℕ) (is : Entry entry) where
  -- no pair
  pub passes_none : bit_and before entry ≡ 0 → Passes before entry (record { fewer = 0; before = entry / 256 % 256 })
  passes_none tested = record {
    few = omega arith;
    held = entry-held entry is;
    on = λ text rest n m size r.
        subst₂ (Reached text rest)
        (sym (entry-second entry is) ∙ (let e : entry / 256 % 8 ≡ entry / 256 % 256 % 8 = omega arith in e))
        (let e : n + 1 + 1 ≡ m = omega arith in e)
        (alone (second_of entry) (alone (first_of entry) r (apart-before before held entry is tested)) (apart-within before held entry is tested));
  }

  module _ (fewer : ℕ) where
    -- the two are a pair
    pub passes-pair : (bit_and before entry ≡ 0 → ⊥) → bit_and before (entry % 8) ≡ 0
        → fewer + length (paired (entry % 8) (entry / 256 % 8)) ≡ 2 → Passes before entry (record { fewer = fewer; before = 8 })
    passes-pair some none says = record {
      few = omega (arith, pairs-some (entry % 8) (entry / 256 % 8));
      held = omega arith;
      on = λ text rest n m size r.
          pair (second_of entry)
          (alone (first_of entry) r
          (ap (bit_and (before % 8)) (sym (entry_first entry is)) ∙ sym (common before held (entry % 8) (omega arith)) ∙ none))
          (pair-within before held entry is some none)
          (omega (arith, ap length (ap₂ paired (entry_first entry is) (entry-second entry is))));
    }

    -- the first is the second of a pair
    pub passes-second : (bit_and before (entry % 8) ≡ 0 → ⊥) → fewer + length (paired (before % 8) (entry % 8)) ≡ 2
        → Passes before entry (record { fewer = fewer; before = entry / 256 % 8 + 8 })
    passes-second some says = record {
      few = omega (arith, pairs-some (before % 8) (entry % 8));
      held = omega arith;
      on = λ text rest n m size r.
          let says' : fewer + length (paired (before % 8) (sign (first_of entry))) ≡ 2 =
          ap (λ (k : ℕ). fewer + length (paired (before % 8) k)) (sym (entry_first entry is)) ∙ says in
          let long : 1 ≤ length (paired (before % 8) (sign (first_of entry))) = pairs-some (before % 8) (sign (first_of entry)) in
          subst₂ (Reached text rest)
          (sym (entry-second entry is) ∙ (let e : entry / 256 % 8 ≡ (entry / 256 % 8 + 8) % 8 = omega arith in e))
          (let e : m - 1 + 1 ≡ m = omega arith in e)
          (alone (second_of entry)
          (pair (first_of entry) r
          (λ e. some (common before held (entry % 8) (omega arith) ∙ ap (bit_and (before % 8)) (entry_first entry is) ∙ e)) (omega arith))
          (and_zero_l (sign (second_of entry))));
    }

-- ---- bytes of the data passed

-- those before place i, of which the text is so much shorter than two characters for each
pub record BytesPassed (s : List ℕ) (i saved before : ℕ) : Type 0 where
  pub few : saved ≤ i
  pub held : before / 8 ≡ 1
  pub reached : Reached (text_of s) (spelled (drop i s)) (before % 8) (i * 2 - saved)

pub none-passed : (s : List ℕ) → BytesPassed s 0 0 8
unfolding text_of
none-passed s = record { few = omega arith; held = omega arith; reached = reached-none (spelled s) }

-- the next one, by its entry
pub next-passed : {s : List ℕ} {i saved before : ℕ} → BytesPassed s i saved before → i < length s → get_or s i 0 < 256
    → {entry : ℕ} → entry ≡ get_or entries (get_or s i 0) 0 → {r : Passed} → Passes before entry r
    → {saved' before' : ℕ} → saved' ≡ saved + r.fewer → before' ≡ r.before → BytesPassed s (i + 1) saved' before'
next-passed {s} {i} {saved} {before} p h byte told {r} passes {saved'} x y = record {
  few = omega (arith, p.few, passes.few);
  held = ap (λ (n : ℕ). n / 8) y ∙ passes.held;
  reached =
      subst⁻¹ (λ (n : ℕ). Reached (text_of s) (spelled (drop (i + 1) s)) (n % 8) ((i + 1) * 2 - saved')) y
      (passes.on (text_of s) (spelled (drop (i + 1) s)) (i * 2 - saved) _ (omega (arith, p.few, passes.few))
      (subst (λ (l : List ℕ). Reached (text_of s) l (before % 8) (i * 2 - saved)) (spelled-entry s i h byte told) p.reached));
}

-- all of them
pub all-passed : {s : List ℕ} {i saved before : ℕ} → BytesPassed s i saved before → i ≡ length s → length s * 2 - saved ≡ length (text_of s)
unfolding spelled
all-passed {s} {i} {saved} {before} p h =
    omega (
      arith,
      reached-end
          (subst (λ (l : List ℕ). Reached (text_of s) l (before % 8) (i * 2 - saved)) (ap spelled (drop_of_length-le s {i = i} (omega arith))) p.reached),
    )
