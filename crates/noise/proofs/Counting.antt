-- Counts of numbers: of those below a limit, of what a function makes, of two kinds together, of pairs.
-- Assumes nothing.
use mathlib.Core.Path.{◌≡◌, refl, sym, ap, ap₂, ◌∙◌, subst}
use mathlib.Core.Logic.{◌⊎◌, inl, inr}
use Prim.Native.Nat.{ℕ, zero, suc, ◌+◌, ◌-◌, ◌*◌, ◌/◌, ◌%◌, ◌<◌}
use native.Mathlib.Nat.{mod-lt, mul-zero, zero-lt-suc, div-add-mod', div-lt_iff_lt-mul}
use native.Mathlib.Decide.{dec_lt}
use native.Mathlib.Omega.{arith}
use lib.Arith.{digits_lt, digits_div, digits_mod}
use Rattle.noise.specs.HowMany.{HowMany}

pub below-count : (count : ℕ) → HowMany (λ (n : ℕ). n < count) count
below-count count = record { nth = λ i. i; such = λ i h. h; once = λ i j hi hj e. e; all = λ n h. (n, h, refl) }

-- the same numbers said in another way
pub same_count : {A B : ℕ → Type 0} {count : ℕ} → ((n : ℕ) → A n → B n) → ((n : ℕ) → B n → A n) → HowMany A count → HowMany B count
same_count to from a =
    record { nth = a.nth; such = λ i h. to (a.nth i) (a.such i h); once = a.once; all = λ n s. a.all n (from n s) }

-- ---- what a function makes of them, where it makes no two the same

abbrev pub Image : (ℕ → ℕ) → (ℕ → Type 0) → ℕ → Type 0
Image f A n = (x : ℕ) × A x × (f x ≡ n)

pub image-count : (f : ℕ → ℕ) {A : ℕ → Type 0} {count : ℕ} → ((x y : ℕ) → A x → A y → f x ≡ f y → x ≡ y) → HowMany A count → HowMany (Image f A) count
image-count f apart a =
    record {
      nth = λ i. f (a.nth i);
      such = λ i h. (a.nth i, a.such i h, refl);
      once = λ i j hi hj e. a.once i j hi hj (apart (a.nth i) (a.nth j) (a.such i hi) (a.such j hj) e);
      all = λ n s. let found = a.all s.0 s.1 in (found.0, found.1, ap f found.2 ∙ s.2);
    }

-- ---- two kinds that have no number in common: first the one, then the other

module _ {A B : ℕ → Type 0} {m n : ℕ} (a : HowMany A m) (b : HowMany B n) where
  joined : (i : ℕ) → Dec (i < m) → ℕ
  joined i (yes h) = a.nth i
  joined i (no h) = b.nth (i - m)

  joined-first : (i : ℕ) (side : Dec (i < m)) → i < m → joined i side ≡ a.nth i
  unfolding joined
  joined-first i (yes h) lt = refl
  joined-first i (no h) lt = absurd (h lt)

  joined-second : (i : ℕ) (side : Dec (m + i < m)) → joined (m + i) side ≡ b.nth i
  unfolding joined
  joined-second i (yes h) = absurd (let no' : ⊥ = omega arith in no')
  joined-second i (no h) = ap b.nth (omega arith)

  joined-such : (i : ℕ) (side : Dec (i < m)) → i < m + n → A (joined i side) ⊎ B (joined i side)
  unfolding joined
  joined-such i (yes h) lt = inl (a.such i h)
  joined-such i (no h) lt = inr (b.such (i - m) (omega arith))

  joined-all : (x : ℕ) → A x ⊎ B x → (i : ℕ) × (i < m + n) × (joined i (dec_lt i m) ≡ x)
  joined-all x (inl s) =
      let found = a.all x s in
      (found.0, omega (arith, found.1), joined-first found.0 (dec_lt found.0 m) found.1 ∙ found.2)
  joined-all x (inr s) =
      let found = b.all x s in
      (m + found.0, omega (arith, found.1), joined-second found.0 (dec_lt (m + found.0) m) ∙ found.2)

  module _ (apart : (x : ℕ) → A x → B x → ⊥) where
    joined_once : (i j : ℕ) (p : Dec (i < m)) (q : Dec (j < m)) → i < m + n → j < m + n → joined i p ≡ joined j q → i ≡ j
    unfolding joined
    joined_once i j (yes p) (yes q) hi hj e = a.once i j p q e
    joined_once i j (yes p) (no q) hi hj e = absurd (apart (a.nth i) (a.such i p) (subst B (sym e) (b.such (j - m) (omega arith))))
    joined_once i j (no p) (yes q) hi hj e = absurd (apart (a.nth j) (a.such j q) (subst B e (b.such (i - m) (omega arith))))
    joined_once i j (no p) (no q) hi hj e =
        let same : i - m ≡ j - m = b.once (i - m) (j - m) (omega arith) (omega arith) e in
        omega arith

    pub sum-count : HowMany (λ (x : ℕ). A x ⊎ B x) (m + n)
    sum-count =
        record {
          nth = λ i. joined i (dec_lt i m);
          such = λ i. joined-such i (dec_lt i m);
          once = λ i j. joined_once i j (dec_lt i m) (dec_lt j m);
          all = joined-all;
        }

-- ---- pairs of the one and the other, where a function makes no two pairs the same

abbrev pub Pair : (ℕ → ℕ → ℕ) → (ℕ → Type 0) → (ℕ → Type 0) → ℕ → Type 0
Pair f A B z = (x : ℕ) × (y : ℕ) × A x × B y × (f x y ≡ z)

-- no pairs without a second
second-pos : (m n i : ℕ) → i < m * n → 0 < n
second-pos m zero i h = absurd (let no' : ⊥ = omega (arith, mul-zero m) in no')
second-pos m (suc n) i h = zero-lt-suc n

first-lt : (m n i : ℕ) → i < m * n → i / n < m
first-lt m n i h = (div-lt_iff_lt-mul (second-pos m n i h)).1 h

second_lt : (m n i : ℕ) → i < m * n → i % n < n
second_lt m n i h = mod-lt i (second-pos m n i h)

pub product-count : (f : ℕ → ℕ → ℕ) {A B : ℕ → Type 0} {m n : ℕ}
    → ((x y x' y' : ℕ) → A x → B y → A x' → B y' → f x y ≡ f x' y' → (x ≡ x') × (y ≡ y'))
    → HowMany A m → HowMany B n → HowMany (Pair f A B) (m * n)
product-count f {A} {B} {m} {n} apart a b =
    record {
      nth = λ i. f (a.nth (i / n)) (b.nth (i % n));
      such = λ i h. (a.nth (i / n), b.nth (i % n), a.such (i / n) (first-lt m n i h), b.such (i % n) (second_lt m n i h), refl);
      once =
          λ i j hi hj e.
          let same =
          apart (a.nth (i / n)) (b.nth (i % n)) (a.nth (j / n)) (b.nth (j % n)) (a.such (i / n) (first-lt m n i hi))
          (b.such (i % n) (second_lt m n i hi)) (a.such (j / n) (first-lt m n j hj)) (b.such (j % n) (second_lt m n j hj)) e in
          sym (div-add-mod' i n)
          ∙ ap₂ (λ (q r : ℕ). q * n + r) (a.once (i / n) (j / n) (first-lt m n i hi) (first-lt m n j hj) same.0)
          (b.once (i % n) (j % n) (second_lt m n i hi) (second_lt m n j hj) same.1)
          ∙ div-add-mod' j n;
      all =
          λ z s.
          let p = a.all s.0 s.2 in
          let q = b.all s.1 s.3 in (
            p.0 * n + q.0,
            digits_lt p.1 q.1,
            ap₂ (λ (i j : ℕ). f (a.nth i) (b.nth j)) (digits_div p.0 q.1) (digits_mod p.0 q.1) ∙ ap₂ f p.2 q.2 ∙ s.4,
          );
    }
