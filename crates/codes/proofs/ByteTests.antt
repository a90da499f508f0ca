-- A test that antt computes at each number below a bound.
-- Assumes nothing.
use mathlib.Core.Path.{◌≡◌, refl}
use mathlib.Core.Bool.{Bool, true, false, not, ◌||◌, beq}
use Prim.Native.Nat.{ℕ, zero-le, ◌<◌}
use native.Mathlib.Omega.{arith}
use lib.Dec.{T}
use Rattle.bits.specs.Numbers.{numbers}
use Rattle.bits.proofs.Numbers.{numbers-in}
use Rattle.codes.proofs.EveryElement.{every, every-at}

pub every-below : (n : ℕ) (f : ℕ → Bool) → T (every f (numbers 0 n)) → (c : ℕ) → c < n → T (f c)
every-below n f t c h = every-at f (numbers 0 n) t c (numbers-in 0 n c zero-le (omega arith))

same_answer : (a b : Bool) → T (beq a b) → a ≡ b
same_answer true true t = refl
same_answer true false t = absurd t
same_answer false true t = absurd t
same_answer false false t = refl

-- two tests answer the same at each
pub same-below : (n : ℕ) (f g : ℕ → Bool) → T (every (λ (c : ℕ). beq (f c) (g c)) (numbers 0 n)) → (c : ℕ) → c < n → f c ≡ g c
same-below n f g t c h = same_answer (f c) (g c) (every-below n (λ (x : ℕ). beq (f x) (g x)) t c h)

implied : (a b : Bool) → T (not a || b) → T a → T b
implied true b t u = t
implied false b t u = absurd u

-- where one test passes, the other does
pub implied-below : (n : ℕ) (f g : ℕ → Bool) → T (every (λ (c : ℕ). not (f c) || g c) (numbers 0 n)) → (c : ℕ) → c < n → T (f c) → T (g c)
implied-below n f g t c h = implied (f c) (g c) (every-below n (λ (x : ℕ). not (f x) || g x) t c h)
