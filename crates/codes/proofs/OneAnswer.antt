-- The contracts of measuring, reading and sizing leave one answer, and one content of the buffer.
-- Assumes nothing.
use mathlib.Core.Path.{◌≡◌, refl, sym, ap, ap₂, ◌∙◌}
use mathlib.Core.Bool.{Bool}
use mathlib.Core.Logic.{by_cases}
use mathlib.Core.List.{List, ◌++◌}
use Prim.Native.Nat.{ℕ, ◌+◌}
use native.Mathlib.Decide.{dec_lt}
use native.Mathlib.Omega.{arith}
use lib.ListN.{length, drop}
use Rattle.codes.specs.Chain.{Scheme}
use Rattle.codes.specs.Steps.Laid.{laid, Placed, Fronted}
use Rattle.std.specs.Prelude.{Option, Some, None, Ok, Err}
use Rattle.codes.specs.Steps.Measure.{Measured, Outcome, extent, malformed_at, Measures, TakesApart}
use Rattle.codes.specs.Coded.{CodedBelow, FirstUncoded}
use Rattle.codes.specs.Steps.Size.{Needed, FindsUncoded, Needs}
use Rattle.codes.specs.declared.Unfit.TheVariants.{NoCode, TooMany}
use Rattle.codes.specs.declared.Unread.TheVariants.{Malformed, TooLong}
use Rattle.codes.proofs.SchemeLaws.{Laws}
use Rattle.codes.proofs.OneReading.{one-text, one-count, one_place, one-before, never_both}

-- ---- taking data apart, where it carries one text or is malformed at one place, never both

module _ (Carried : List ℕ → ℕ → Type 0) (Place : ℕ → ℕ → Type 0) (one : (t u : List ℕ) (k l : ℕ) → Carried t k → Carried u l → (t ≡ u) × (k ≡ l))
    (place : (i j k l : ℕ) → Place i k → Place j l → (i ≡ j) × (k ≡ l)) (never : (t : List ℕ) (i k l : ℕ) → Carried t k → Place i l → ⊥) (size : ℕ) where
  pub one-coming : (a b : Outcome) → TakesApart Carried Place size a → TakesApart Carried Place size b → a ≡ b
  one-coming (Ok d) (Ok e) (s, (t, p, c)) (s', (u, q, f)) =
      let same = one t u d.codes e.codes c f in
      ap₂ {C = Outcome} (λ n codes. Ok (extent n codes)) (sym p ∙ ap length same.0 ∙ q) same.1
  one-coming (Ok e) (Err (Malformed at)) (s, (t, p, c)) (s', q) = absurd (never t at.bit e.codes at.codes c q)
  one-coming (Ok e) (Err TooLong) (s, h) g = absurd (let no' : ⊥ = omega (arith, s, g) in no')
  one-coming (Err (Malformed at)) (Ok e) (s, q) (s', (t, p, c)) = absurd (never t at.bit e.codes at.codes c q)
  one-coming (Err (Malformed at)) (Err (Malformed to)) (s, p) (s', q) =
      let same = place at.bit to.bit at.codes to.codes p q in
      ap₂ {C = Outcome} (λ i codes. Err (Malformed (malformed_at i codes))) same.0 same.1
  one-coming (Err (Malformed at)) (Err TooLong) (s, h) g = absurd (let no' : ⊥ = omega (arith, s, g) in no')
  one-coming (Err TooLong) (Ok e) h (s', g) = absurd (let no' : ⊥ = omega (arith, h, s') in no')
  one-coming (Err TooLong) (Err (Malformed at)) h (s', g) = absurd (let no' : ⊥ = omega (arith, h, s') in no')
  one-coming (Err TooLong) (Err TooLong) h g = refl

-- ---- what bits come to, and their text in a buffer

pub measured-one : {scheme : Scheme} → Laws scheme → (bs : List ℕ) (a b : Measured) → Measures scheme bs a → Measures scheme bs b → a ≡ b
measured-one laws bs (Ok d) (Ok e) (t, p, (q, c)) (u, r, (s, f)) =
    ap₂ {C = Measured} (λ n codes. Ok (extent n codes)) (sym p ∙ ap length (one-text laws q s) ∙ r) (sym c ∙ one-count laws q s ∙ f)
measured-one laws bs (Ok d) (Err at) (t, p, (q, c)) (s, f) = absurd (never_both laws q s)
measured-one laws bs (Err at) (Ok d) (s, f) (t, p, (q, c)) = absurd (never_both laws q s)
measured-one laws bs (Err at) (Err to) (p, c) (q, d) =
    ap₂ {C = Measured} (λ i codes. Err (malformed_at i codes)) (one_place laws p q) (sym c ∙ one-before laws p q ∙ d)

pub placed_one : {scheme : Scheme} → Laws scheme → {bs entry x y : List ℕ} {n r q : ℕ} → Placed scheme bs entry x n r → Placed scheme bs entry y n q
    → (x ≡ y) × (r ≡ q)
placed_one laws {entry = entry} {n = n} h k =
    let same = one-text laws h.reads k.reads in
    (h.whole ∙ ap (laid entry n) same ∙ sym k.whole, h.place ∙ ap (λ (t : List ℕ). n + length t) same ∙ sym k.place)

-- ---- the contracts of what a text asks before it is written

module _ (has : List ℕ → ℕ → Bool) (text : List ℕ) where
  pub first_one : (i j : ℕ) → FirstUncoded has text i → FirstUncoded has text j → i ≡ j
  first_one i j a b =
      by_cases (dec_lt i j) (λ l. absurd (a.none (b.before i l)))
      (λ l. by_cases (dec_lt j i) (λ m. absurd (b.none (a.before j m))) (λ m. omega arith))

  pub one-search : (a b : Option ℕ) → FindsUncoded has text a → FindsUncoded has text b → a ≡ b
  one-search (Some i) (Some j) h k = ap {B = Option ℕ} Some (first_one i j h k)
  one-search (Some i) None h k = absurd (h.none (k i h.there))
  one-search None (Some j) h k = absurd (k.none (h j k.there))
  one-search None None h k = refl

  -- a text that has codes has no character without one
  all_coded : (i : ℕ) → FirstUncoded has text i → CodedBelow has text (length text) → ⊥
  all_coded i f c = f.none (c i f.there)

  module _ (most : ℕ) (carried : List ℕ) where
    pub one-need : (a b : Needed) → Needs most has text carried a → Needs most has text carried b → a ≡ b
    one-need (Err (NoCode i)) (Err (NoCode j)) h k = ap {B = Needed} (λ x. Err (NoCode x)) (first_one i j h k)
    one-need (Err (NoCode i)) (Err TooMany) h k = absurd (all_coded i h k.0)
    one-need (Err (NoCode i)) (Ok n) h k = absurd (all_coded i h k.0)
    one-need (Err TooMany) (Err (NoCode j)) h k = absurd (all_coded j k h.0)
    one-need (Err TooMany) (Err TooMany) h k = refl
    one-need (Err TooMany) (Ok n) h k = absurd (let no' : ⊥ = omega (arith, h.1, k.1, k.2) in no')
    one-need (Ok m) (Err (NoCode j)) h k = absurd (all_coded j k h.0)
    one-need (Ok m) (Err TooMany) h k = absurd (let no' : ⊥ = omega (arith, k.1, h.1, h.2) in no')
    one-need (Ok m) (Ok n) h k = ap {B = Needed} Ok (h.1 ∙ sym k.1)

pub one-front : {row entry x y : List ℕ} {r q : ℕ} → Fronted row entry x r → Fronted row entry y q → (x ≡ y) × (r ≡ q)
one-front {row} {entry} h k =
    let same = h.size ∙ sym k.size in
    (h.whole ∙ ap (λ (n : ℕ). row ++ drop n entry) same ∙ sym k.whole, same)
