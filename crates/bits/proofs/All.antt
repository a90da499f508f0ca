-- A test that passes at every number below a limit, computed once, and what it says of each.
-- Assumes nothing.
use mathlib.Core.Bool.{Bool, true, ◌&&◌}
use mathlib.Core.Logic.{⊎_elim}
use mathlib.Core.Path.{sym, subst}
use Prim.Native.Nat.{ℕ, zero, suc, ◌<◌}
use native.Mathlib.Nat.{eq-or-lt_of_le, le_of_suc-le-suc}
use native.Mathlib.Omega.{arith}
use lib.Dec.{T}
use Rattle.bits.proofs.Said.{and_left, and_right}

unfoldable pub all : (ℕ → Bool) → ℕ → Bool
all f zero = true
all f (suc k) = f k && all f k

pub all-at : (f : ℕ → Bool) (k : ℕ) → T (all f k) → (i : ℕ) → i < k → T (f i)
unfolding all
all-at f zero t i h = absurd (let no : ⊥ = omega arith in no)
all-at f (suc k) t i h =
    ⊎_elim (λ e. subst (λ (n : ℕ). T (f n)) (sym e) (and_left (f k) (all f k) t)) (λ lt. all-at f k (and_right (f k) (all f k) t) i lt)
    (eq-or-lt_of_le (le_of_suc-le-suc h))
