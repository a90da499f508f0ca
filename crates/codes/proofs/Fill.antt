-- Fill, as a test; what begins a fill is a fill.
-- Assumes nothing.
use mathlib.Core.Path.{◌≡◌, refl, sym, ap, ap₂, subst}
use mathlib.Core.Bool.{Bool, ◌&&◌}
use mathlib.Core.List.{List, [], ◌∷◌, ◌++◌, head-eq_of_cons-eq, tail-eq_of_cons-eq}
use Prim.Native.Nat.{ℕ, ◌≤◌, zero-le}
use native.Mathlib.Omega.{arith}
use lib.Dec.{T, leb, eqb, leb→le, le→leb, eqb→eq}
use lib.ListN.{length, replicate, length-append, length-replicate}
use Rattle.codes.specs.Chain.{Fill}
use Rattle.bits.proofs.Said.{and_left, and_right, and_both}
use Rattle.codes.proofs.EveryElement.{every, every_front}

unfoldable pub fills : ℕ → List ℕ → Bool
fills unused f = leb (length f) unused && every (eqb 1) f

all_ones : (f : List ℕ) → T (every (eqb 1) f) → f ≡ replicate (length f) 1
unfolding every
all_ones [] t = refl
all_ones (b ∷ f) t =
    ap₂ (λ (z : ℕ) (l : List ℕ). z ∷ l) (sym (eqb→eq 1 b (and_left (eqb 1 b) (every (eqb 1) f) t)))
    (all_ones f (and_right (eqb 1 b) (every (eqb 1) f) t))

ones-all : (f : List ℕ) → f ≡ replicate (length f) 1 → T (every (eqb 1) f)
unfolding every
ones-all [] e = tt
ones-all (b ∷ f) e =
    and_both (eqb 1 b) (every (eqb 1) f) (subst (λ (z : ℕ). T (eqb 1 z)) (sym (head-eq_of_cons-eq e)) tt)
    (ones-all f (tail-eq_of_cons-eq e))

module _ (unused : ℕ) where
  pub fills-fill : (f : List ℕ) → T (fills unused f) → Fill unused f
  unfolding fills
  fills-fill f t = record {
    few = leb→le (length f) unused (and_left (leb (length f) unused) (every (eqb 1) f) t);
    ones = all_ones f (and_right (leb (length f) unused) (every (eqb 1) f) t);
  }

  pub fill-fills : (f : List ℕ) → Fill unused f → T (fills unused f)
  unfolding fills
  fill-fills f h =
      and_both (leb (length f) unused) (every (eqb 1) f) (le→leb (length f) unused h.few) (ones-all f h.ones)

  pub fill-front : (c r : List ℕ) → Fill unused (c ++ r) → Fill unused c
  fill-front c r h = record {
    few = omega (arith, length-append c r, h.few);
    ones = all_ones c (every_front (eqb 1) c r (ones-all (c ++ r) h.ones));
  }

  -- as many ones as may be unused, or fewer, are a fill; none always are
  pub ones_fill : (k : ℕ) → k ≤ unused → Fill unused (replicate k 1)
  ones_fill k h = record {
    few = omega (arith, length-replicate {A = ℕ} k 1);
    ones = ap (λ (n : ℕ). replicate n 1) (sym (length-replicate k 1));
  }

  pub no-fill : Fill unused []
  no-fill = record { few = zero-le; ones = refl }
