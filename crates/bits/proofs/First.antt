-- The first of a row that passes a test: what is found stands in the row and passes, and where nothing is found nothing in the row passes.
-- Assumes nothing.
use mathlib.Core.Bool.{Bool, true, false, cond}
use mathlib.Core.List.Memᴰ
use mathlib.Core.List.{List, [], ◌∷◌, Memᴰ}
use mathlib.Core.Logic.{◌⊎◌, inl, inr, ⊎_elim}
use mathlib.Core.Path.{◌≡◌, refl, subst, subst⁻¹}
use lib.Dec.{T}
use Rattle.bits.specs.First.{first}

module _ {A : Type 0} (test : A → Bool) where
  -- what was found
  pub record Found (xs : List A) (x : A) : Type 0 where
    pub stands : Memᴰ x xs
    pub passes : T (test x)

  abbrev pub Searched : List A → List A → Type 0
  Searched xs answer = ((answer ≡ []) × ((x : A) → Memᴰ x xs → T (test x) → ⊥)) ⊎ ((x : A) × Found xs x × (answer ≡ x ∷ []))

  step : (x : A) (xs : List A) (t : Bool) → test x ≡ t → Searched xs (first test xs) → Searched (x ∷ xs) (cond t (x ∷ []) (first test xs))
  step x xs true e rest = inr (x, record { stands = Memᴰ.head refl; passes = subst⁻¹ T e tt }, refl)
  step x xs false e (inl none) =
      inl (
        none.0,
        λ y m p. ⊎_elim (λ (same : y ≡ x). subst T e (subst (λ (z : A). T (test z)) same p)) (λ (in_rest : Memᴰ y xs). none.1 y in_rest p) (Memᴰ.cases_cons m),
      )
  step x xs false e (inr some) =
      inr (some.0, record { stands = Memᴰ.tail some.1.stands; passes = some.1.passes }, some.2)

  pub searched : (xs : List A) → Searched xs (first test xs)
  unfolding first
  searched [] = inl (refl, λ x m p. Memᴰ.not-nil m)
  searched (x ∷ xs) = step x xs (test x) refl (searched xs)
