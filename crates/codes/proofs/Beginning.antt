-- One row of bits begins another: the test that computes it, and two that begin one row.
-- Assumes nothing.
use mathlib.Core.Path.{◌≡◌, refl, sym, ap₂, subst}
use mathlib.Core.Bool.{Bool, true, false, ◌&&◌}
use mathlib.Core.Logic.{◌⊎◌, inl, inr, ⊎_elim}
use mathlib.Core.List.{List, [], ◌∷◌, ◌++◌, nil≢cons, head-eq_of_cons-eq, tail-eq_of_cons-eq}
use Prim.Native.Nat.{ℕ}
use lib.Dec.{T, eqb, eqb→eq, eqb_refl}
use Rattle.codes.specs.Chain.{Begins}
use Rattle.bits.proofs.Said.{and_left, and_right, and_both}

unfoldable pub begun : List ℕ → List ℕ → Bool
begun [] bs = true
begun (x ∷ c) [] = false
begun (x ∷ c) (y ∷ bs) = let later = begun c bs in eqb x y && later

more : (x y : ℕ) (c bs : List ℕ) → x ≡ y → Begins c bs → Begins (x ∷ c) (y ∷ bs)
more x y c bs e b = (b.0, ap₂ (λ (z : ℕ) (l : List ℕ). z ∷ l) (sym e) b.1)

pub begun-begins : (c bs : List ℕ) → T (begun c bs) → Begins c bs
unfolding begun
begun-begins [] bs t = (bs, refl)
begun-begins (x ∷ c) [] t = absurd t
begun-begins (x ∷ c) (y ∷ bs) t =
    more x y c bs (eqb→eq x y (and_left (eqb x y) (begun c bs) t))
    (begun-begins c bs (and_right (eqb x y) (begun c bs) t))

pub begins-begun : (c bs : List ℕ) → Begins c bs → T (begun c bs)
unfolding begun
begins-begun [] bs b = tt
begins-begun (x ∷ c) [] b = absurd (nil≢cons b.1)
begins-begun (x ∷ c) (y ∷ bs) b =
    and_both (eqb x y) (begun c bs)
    (subst (λ (z : ℕ). T (eqb x z)) (sym (head-eq_of_cons-eq b.1)) (eqb_refl x))
    (begins-begun c bs (b.0, tail-eq_of_cons-eq b.1))

-- of two that begin one row, one begins the other
pub either-begins : (a b r s : List ℕ) → a ++ r ≡ b ++ s → Begins a b ⊎ Begins b a
either-begins [] b r s e = inl (b, refl)
either-begins (x ∷ a) [] r s e = inr (x ∷ a, refl)
either-begins (x ∷ a) (y ∷ b) r s e =
    ⊎_elim (λ h. inl (more x y a b (head-eq_of_cons-eq e) h))
    (λ h. inr (more y x b a (sym (head-eq_of_cons-eq e)) h))
    (either-begins a b r s (tail-eq_of_cons-eq e))
