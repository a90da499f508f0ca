-- A count is one number: whichever way they are numbered, without one of them there is one fewer.
-- Assumes nothing.
use mathlib.Core.Path.{◌≡◌, refl, sym, ap, ◌∙◌}
use Prim.Native.Nat.{ℕ, zero, suc, ◌<◌}
use native.Mathlib.Decide.{ℕ_discrete}
use native.Mathlib.Nat.{zero-lt-suc}
use native.Mathlib.Omega.{arith}
use Rattle.noise.specs.HowMany.{HowMany}

-- ---- the last of them in the place of the one that is gone

module _ {Such : ℕ → Type 0} {count : ℕ} (a : HowMany Such (suc count)) (place gone : ℕ) (lt : place < suc count) (stood : a.nth place ≡ gone) where
  moved : (i : ℕ) → Dec (i ≡ place) → ℕ
  moved i (yes e) = a.nth count
  moved i (no e) = a.nth i

  moved-there : (here : Dec (place ≡ place)) → moved place here ≡ a.nth count
  unfolding moved
  moved-there (yes e) = refl
  moved-there (no e) = absurd (e refl)

  moved-elsewhere : (i : ℕ) (here : Dec (i ≡ place)) → (i ≡ place → ⊥) → moved i here ≡ a.nth i
  unfolding moved
  moved-elsewhere i (yes e) other = absurd (other e)
  moved-elsewhere i (no e) other = refl

  moved-such : (i : ℕ) (here : Dec (i ≡ place)) → i < count → Such (moved i here) × (moved i here ≡ gone → ⊥)
  unfolding moved
  moved-such i (yes e) h = (a.such count (omega arith), λ same. omega (arith, a.once count place (omega arith) lt (same ∙ sym stood)))
  moved-such i (no e) h = (a.such i (omega arith), λ same. e (a.once i place (omega arith) lt (same ∙ sym stood)))

  moved-once : (i j : ℕ) (p : Dec (i ≡ place)) (q : Dec (j ≡ place)) → i < count → j < count → moved i p ≡ moved j q → i ≡ j
  unfolding moved
  moved-once i j (yes p) (yes q) hi hj e = p ∙ sym q
  moved-once i j (yes p) (no q) hi hj e = omega (arith, a.once count j (omega arith) (omega arith) e)
  moved-once i j (no p) (yes q) hi hj e = omega (arith, a.once i count (omega arith) (omega arith) e)
  moved-once i j (no p) (no q) hi hj e = a.once i j (omega arith) (omega arith) e

  moved_all : (n i : ℕ) → i < suc count → a.nth i ≡ n → (n ≡ gone → ⊥) → Dec (i ≡ count) → (j : ℕ) × (j < count) × (moved j (ℕ_discrete j place) ≡ n)
  moved_all n i h e other (yes last) =
      let left : place ≡ count → ⊥ = λ same. other (sym e ∙ ap a.nth (last ∙ sym same) ∙ stood) in
      (place, omega arith, moved-there (ℕ_discrete place place) ∙ ap a.nth (sym last) ∙ e)
  moved_all n i h e other (no before) =
      (i, omega arith, moved-elsewhere i (ℕ_discrete i place) (λ same. other (sym e ∙ ap a.nth same ∙ stood)) ∙ e)

  one_fewer : HowMany (λ (n : ℕ). Such n × (n ≡ gone → ⊥)) count
  one_fewer =
      record {
        nth = λ i. moved i (ℕ_discrete i place);
        such = λ i. moved-such i (ℕ_discrete i place);
        once = λ i j. moved-once i j (ℕ_discrete i place) (ℕ_discrete j place);
        all = λ n s. let found = a.all n s.0 in moved_all n found.0 found.1 found.2 s.1 (ℕ_discrete found.0 count);
      }

-- ---- the count

none_or_some : {Such : ℕ → Type 0} (n : ℕ) → HowMany Such 0 → HowMany Such (suc n) → ⊥
none_or_some n none some = let found = none.all (some.nth 0) (some.such 0 (zero-lt-suc n)) in omega (arith, found.1)

pub one-count : {Such : ℕ → Type 0} (m n : ℕ) → HowMany Such m → HowMany Such n → m ≡ n
one-count zero zero a b = refl
one-count zero (suc n) a b = absurd (none_or_some n a b)
one-count (suc m) zero a b = absurd (none_or_some m b a)
one-count (suc m) (suc n) a b =
    let last = a.nth m in
    let found = b.all last (a.such m (omega arith)) in
    ap suc (one-count m n (one_fewer a m last (omega arith) refl) (one_fewer b found.0 last found.1 found.2))
