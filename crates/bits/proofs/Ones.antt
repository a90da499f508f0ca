-- Laws of the number of ones among the low bits of a number, and of the bits in which two numbers differ.
-- Assumes nothing.
use mathlib.Core.Path.{◌≡◌, refl, sym, ap, ap₂, ◌∙◌, subst}
use mathlib.Core.Logic.{◌⊎◌, inl, inr, ◌↔◌, ◌≢◌}
use Prim.Native.Nat.{ℕ, zero, suc, ◌+◌, ◌-◌, ◌*◌, ◌/◌, ◌%◌, ◌^◌, ◌≤◌, ◌<◌, zero-le}
use native.Mathlib.Nat.{mod-lt, one-mul, mul_comm, zero-add, suc-add, pow-suc, div-one, div-eq_of_lt, div-div-eq-div-mul}
use native.Mathlib.Decide.{dec_lt}
use native.Mathlib.Numerals.{add-one}
use native.Mathlib.Omega.{arith}
use lib.Arith.{lt-one, digits_div, digits_mod}
use lib.Pow.{field, mod-mod-pow}
use lib.Bits.{bit_xor, differ, xor_comm, xor_self, xor_shr, xor_lt}
use lib.Count.{ones_in, ones, ones_step}
use Rattle.bits.specs.Word.{bit, differences}
use Rattle.bits.proofs.Xor.{two_pos, xor-odd, xor-half, xor_assoc, xor-undo, xor-zero}

-- ---- halves

shift-half : (j n : ℕ) → n / 2 ^ suc j ≡ n / 2 / 2 ^ j
shift-half j n = ap (λ (m : ℕ). n / m) (pow-suc 2 j ∙ mul_comm (2 ^ j) 2) ∙ sym (div-div-eq-div-mul n 2 (2 ^ j))

pub bit-lt : (k n : ℕ) → bit k n < 2
unfolding bit
bit-lt k n = mod-lt (n / 2 ^ k) two_pos

-- ---- a bit of an exclusive or

xor-bit : (k a b : ℕ) → bit k (bit_xor a b) ≡ differ (bit k a) (bit k b)
unfolding bit
xor-bit k a b = ap (λ (n : ℕ). n % 2) (xor_shr a b k) ∙ xor-odd (a / 2 ^ k) (b / 2 ^ k)

differ-told : (x y : ℕ) → x < 2 → y < 2 → (differ x y ≡ 1) ↔ (x ≢ y)
differ-told zero zero hx hy = (λ e. absurd (let no : ⊥ = omega arith in no), λ other. absurd (other refl))
differ-told zero (suc zero) hx hy = (λ e same. omega arith, λ other. refl)
differ-told (suc zero) zero hx hy = (λ e same. omega arith, λ other. refl)
differ-told (suc zero) (suc zero) hx hy = (λ e. absurd (let no : ⊥ = omega arith in no), λ other. absurd (other refl))
differ-told zero (suc (suc y)) hx hy = absurd (let no : ⊥ = omega arith in no)
differ-told (suc zero) (suc (suc y)) hx hy = absurd (let no : ⊥ = omega arith in no)
differ-told (suc (suc x)) y hx hy = absurd (let no : ⊥ = omega arith in no)

-- it is 1 exactly where the bits of the two differ
pub xor-bit-told : (k a b : ℕ) → (bit k (bit_xor a b) ≡ 1) ↔ (bit k a ≢ bit k b)
xor-bit-told k a b = subst (λ (x : ℕ). (x ≡ 1) ↔ (bit k a ≢ bit k b)) (sym (xor-bit k a b)) (differ-told (bit k a) (bit k b) (bit-lt k a) (bit-lt k b))

-- ---- no ones

pub ones_of_zero : (k : ℕ) → ones_in k 0 ≡ 0
unfolding ones_in
ones_of_zero zero = refl
ones_of_zero (suc k) = ap (λ (n : ℕ). 0 + n) (ones_of_zero k)

ones-zero : ones 0 ≡ 0
unfolding ones ones_in
ones-zero = refl

half-bound : (k n : ℕ) → n < 2 ^ suc k → n / 2 < 2 ^ k
half-bound k n h = let p : n < 2 ^ k * 2 = subst (λ (m : ℕ). n < m) (pow-suc 2 k) h in omega arith

pub no_ones : (k n : ℕ) → n < 2 ^ k → ones_in k n ≡ 0 → n ≡ 0
unfolding ones_in
no_ones zero n h e = lt-one h
no_ones (suc k) n h e =
    let rest : n / 2 ≡ 0 = no_ones k (n / 2) (half-bound k n h) (let p : ones_in k (n / 2) ≡ 0 = omega arith in p) in
    omega arith

-- the kit's count of all ones of a number, at a number of k bits
pub ones-all : (k n : ℕ) → n < 2 ^ k → ones n ≡ ones_in k n
unfolding ones_in
ones-all zero n h = ap ones (lt-one h) ∙ ones-zero
ones-all (suc k) n h = ones_step n ∙ ap (λ (m : ℕ). n % 2 + m) (ones-all k (n / 2) (half-bound k n h))

-- ---- the count of a part

pub ones_split : (k j n : ℕ) → ones_in (k + j) n ≡ ones_in k n + ones_in j (n / 2 ^ k)
unfolding ones_in
ones_split zero j n = omega (arith, ap (λ (m : ℕ). ones_in m n) (zero-add j), ap (ones_in j) (div-one n))
ones_split (suc k) j n =
    omega (arith, ap (λ (m : ℕ). ones_in m n) (suc-add k j), ones_split k j (n / 2), ap (ones_in j) (shift-half k n))

pub ones-top : (k n : ℕ) → ones_in (suc k) n ≡ ones_in k n + n / 2 ^ k % 2
unfolding ones_in
ones-top k n =
    ap (λ (m : ℕ). ones_in m n) (sym (add-one k)) ∙ ones_split k 1 n
    ∙ (let same : ones_in k n + (n / 2 ^ k % 2 + 0) ≡ ones_in k n + n / 2 ^ k % 2 = omega arith in same)

pub ones_low : (k n : ℕ) → ones_in k (n % 2 ^ k) ≡ ones_in k n
unfolding ones_in
ones_low zero n = refl
ones_low (suc k) n = ap₂ (λ (x y : ℕ). x + y) low (ap (ones_in k) high ∙ ones_low k (n / 2))
  where
    low : n % 2 ^ suc k % 2 ≡ n % 2
    low = ap (λ (m : ℕ). n % 2 ^ m % 2) (sym (add-one k)) ∙ mod-mod-pow n k 1

    high : n % 2 ^ suc k / 2 ≡ n / 2 % 2 ^ k
    high = ap (λ (m : ℕ). n % 2 ^ m / 2) (sym (add-one k)) ∙ field n k 1

-- ---- a number of one bit more

-- its highest bit is 0, or it is that bit and a number of the others
abbrev pub Top : ℕ → ℕ → Type 0
Top k n = (n < 2 ^ k) ⊎ ((rest : ℕ) × (rest < 2 ^ k) × (n ≡ 2 ^ k + rest))

pub top : (k n : ℕ) → n < 2 ^ suc k → Top k n
top k n h = pick (dec_lt n (2 ^ k))
  where
    pick : Dec (n < 2 ^ k) → Top k n
    pick (yes low) = inl low
    pick (no high) = inr (n - 2 ^ k, omega (arith, pow-suc 2 k), omega arith)

-- the count of the one,
pub without-top : (k n : ℕ) → n < 2 ^ k → ones_in (suc k) n ≡ ones_in k n
without-top k n h =
    let none : n / 2 ^ k ≡ 0 = div-eq_of_lt h in
    omega (arith, ones-top k n, none)

-- and of the other
pub with-top : (k n : ℕ) → n < 2 ^ k → ones_in (suc k) (2 ^ k + n) ≡ suc (ones_in k n)
with-top k n h =
    let one : (2 ^ k + n) / 2 ^ k ≡ 1 = ap (λ (m : ℕ). (m + n) / 2 ^ k) (sym (one-mul (2 ^ k))) ∙ digits_div 1 h in
    let rest : (2 ^ k + n) % 2 ^ k ≡ n = ap (λ (m : ℕ). (m + n) % 2 ^ k) (sym (one-mul (2 ^ k))) ∙ digits_mod 1 h in
    omega (arith, ones-top k (2 ^ k + n), one, ones_low k (2 ^ k + n), ap (ones_in k) rest)

-- ---- the count of an exclusive or

differ-le : (x y : ℕ) → differ x y ≤ x + y
differ-le zero y = omega arith
differ-le (suc x) zero = omega arith
differ-le (suc x) (suc y) = let p : differ x y ≤ x + y = differ-le x y in omega arith

pub ones-xor : (k a b : ℕ) → ones_in k (bit_xor a b) ≤ ones_in k a + ones_in k b
unfolding ones_in
ones-xor zero a b = zero-le
ones-xor (suc k) a b =
    omega (arith, xor-odd a b, differ-le (a % 2) (b % 2), ap (ones_in k) (xor-half a b), ones-xor k (a / 2) (b / 2))

-- ---- the bits in which two numbers differ

pub differences-self : (k a : ℕ) → differences k a a ≡ 0
unfolding differences
differences-self k a = ap (ones_in k) (xor_self a) ∙ ones_of_zero k

pub differences-same : (k a b : ℕ) → a < 2 ^ k → b < 2 ^ k → differences k a b ≡ 0 → a ≡ b
unfolding differences
differences-same k a b ha hb e = xor-zero a b (no_ones k (bit_xor a b) (xor_lt k a b ha hb) e)

pub differences-comm : (k a b : ℕ) → differences k a b ≡ differences k b a
unfolding differences
differences-comm k a b = ap (ones_in k) (xor_comm a b)

-- the way round is never shorter
pub differences-round : (k a b c : ℕ) → differences k a c ≤ differences k a b + differences k b c
unfolding differences
differences-round k a b c = subst (λ (n : ℕ). ones_in k n ≤ ones_in k (bit_xor a b) + ones_in k (bit_xor b c)) way (ones-xor k (bit_xor a b) (bit_xor b c))
  where
    way : bit_xor (bit_xor a b) (bit_xor b c) ≡ bit_xor a c
    way = xor_assoc a b (bit_xor b c) ∙ ap (bit_xor a) (xor-undo b c)
