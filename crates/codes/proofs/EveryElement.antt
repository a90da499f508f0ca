-- A test that antt computes at each element of a list.
-- Assumes nothing.
use mathlib.Core.Path.{subst⁻¹}
use mathlib.Core.Bool.{Bool, true, ◌&&◌}
use mathlib.Core.Logic.{⊎_elim}
use mathlib.Core.List.Memᴰ
use mathlib.Core.List.{List, [], ◌∷◌, ◌++◌, Memᴰ}
use lib.Dec.{T}
use Rattle.bits.proofs.Said.{and_left, and_right, and_both}

module _ {A : Type 0} where
  -- the test passes at each element
  unfoldable pub every : (A → Bool) → List A → Bool
  every f [] = true
  every f (x ∷ xs) = f x && every f xs

  pub every-at : (f : A → Bool) (xs : List A) → T (every f xs) → (x : A) → Memᴰ x xs → T (f x)
  unfolding every
  every-at f [] t x h = absurd (Memᴰ.not-nil h)
  every-at f (y ∷ xs) t x h =
      ⊎_elim (λ e. subst⁻¹ (λ (z : A). T (f z)) e (and_left (f y) (every f xs) t))
      (every-at f xs (and_right (f y) (every f xs) t) x) (Memᴰ.cases_cons h)

  pub every_front : (f : A → Bool) (xs ys : List A) → T (every f (xs ++ ys)) → T (every f xs)
  unfolding every
  every_front f [] ys t = tt
  every_front f (x ∷ xs) ys t =
      and_both (f x) (every f xs) (and_left (f x) (every f (xs ++ ys)) t)
      (every_front f xs ys (and_right (f x) (every f (xs ++ ys)) t))

  pub every_append : (f : A → Bool) (xs ys : List A) → T (every f xs) → T (every f ys) → T (every f (xs ++ ys))
  unfolding every
  every_append f [] ys t u = u
  every_append f (x ∷ xs) ys t u =
      and_both (f x) (every f (xs ++ ys)) (and_left (f x) (every f xs) t) (every_append f xs ys (and_right (f x) (every f xs) t) u)
