-- What an answer of yes or no says, taken apart; an answer that is a test of two numbers; two tests at once.
-- Assumes nothing.
use mathlib.Core.Path.{◌≡◌, refl, subst}
use mathlib.Core.Bool.{Bool, true, false, ◌&&◌}
use Prim.Native.Nat.{ℕ}
use lib.Dec.{T, eqb}
use borrow.Author.Tests.{eqb-true, eqb-false}
use Rattle.bits.specs.Says.{Says}

pub says-equal : (a b : ℕ) (P : Type 0) → (a ≡ b → P) → (P → a ≡ b) → Says (eqb a b) P
says-equal a b P to from = pick (eqb a b) refl
  where
    pick : (t : Bool) → eqb a b ≡ t → Says t P
    pick true e = to (eqb-true a b e)
    pick false e = λ p. eqb-false a b e (from p)

-- no statement has both answers
pub says-one : (P : Type 0) (q r : Bool) → Says q P → Says r P → q ≡ r
says-one P true true p p' = refl
says-one P true false p none = absurd (none p)
says-one P false true none p = absurd (none p)
says-one P false false p p' = refl

pub said-yes : {P : Type 0} (b : Bool) → Says b P → b ≡ true → P
said-yes {P} b s e = subst (λ (t : Bool). Says t P) e s

pub said-no : {P : Type 0} (b : Bool) → Says b P → b ≡ false → P → ⊥
said-no {P} b s e = subst (λ (t : Bool). Says t P) e s

-- ---- two tests at once, where antt computes them

pub and_left : (a b : Bool) → T (a && b) → T a
and_left true b t = tt
and_left false b t = t

pub and_right : (a b : Bool) → T (a && b) → T b
and_right true b t = t
and_right false b t = absurd t

pub and_both : (a b : Bool) → T a → T b → T (a && b)
and_both true b s t = t
and_both false b s t = s
