-- Which numbers stand in a range.
-- Assumes nothing.
use mathlib.Core.Logic.{⊎_elim, by_cases}
use mathlib.Core.Path.{◌≡◌, ap, ◌∙◌}
use mathlib.Core.List.Memᴰ
use mathlib.Core.List.{map, Memᴰ}
use Prim.Native.Nat.{ℕ, zero, suc, ◌+◌, ◌≤◌, ◌<◌}
use native.Mathlib.Decide.{ℕ_discrete}
use native.Mathlib.Omega.{arith}
use lib.ListN.{get_or}
use Rattle.bits.specs.Numbers.{numbers}

pub in-numbers : (a n k : ℕ) → Memᴰ k (numbers a n) → (a ≤ k) × (k < a + n)
unfolding numbers
in-numbers a zero k h = absurd (Memᴰ.not-nil h)
in-numbers a (suc n) k h =
    ⊎_elim (λ e. omega arith) (λ j. let b : (suc a ≤ k) × (k < suc a + n) = in-numbers (suc a) n k j in omega arith)
    (Memᴰ.cases_cons h)

pub numbers-in : (a n k : ℕ) → a ≤ k → k < a + n → Memᴰ k (numbers a n)
unfolding numbers
numbers-in a zero k h j = absurd (let no' : ⊥ = omega arith in no')
numbers-in a (suc n) k h j =
    by_cases (ℕ_discrete k a) (λ e. Memᴰ.head e) (λ e. Memᴰ.tail (numbers-in (suc a) n k (omega arith) (omega arith)))

-- a function of each, by place
pub map-numbers : (f : ℕ → ℕ) (a n i : ℕ) → i < n → get_or (map f (numbers a n)) i 0 ≡ f (a + i)
unfolding numbers
map-numbers f a zero i h = absurd (let no' : ⊥ = omega arith in no')
map-numbers f a (suc n) zero h = ap f (let e : a ≡ a + zero = omega arith in e)
map-numbers f a (suc n) (suc i) h = map-numbers f (suc a) n i (omega arith) ∙ ap f (let e : suc a + i ≡ a + suc i = omega arith in e)
