-- The lowest bits of a number in a row, and the number that a row of bits is.
-- Assumes nothing.
use mathlib.Core.Path.{◌≡◌, refl, sym, ap, ap₂, subst⁻¹, ◌∙◌}
use mathlib.Core.List.{List, [], ◌∷◌, ◌++◌}
use Prim.Native.Nat.{ℕ, zero, suc, ◌+◌, ◌-◌, ◌*◌, ◌/◌, ◌%◌, ◌^◌, ◌<◌}
use native.Mathlib.Nat.{mod-lt, mod-eq_of_lt, zero-lt-suc, zero-add, add-zero, suc-add, pow-succ', two-pow-succ, mul-mod_left}
use native.Mathlib.Numerals.{one-add}
use native.Mathlib.Omega.{arith}
use lib.ListN.{length, replicate}
use lib.Arith.{digits_lt}
use lib.Pow.{mod-pow-add, field, mod-mod-pow, high, shr-shr, shl-shr, ones_lt, pow_pos, low as low-digits}
use Rattle.bits.specs.Word.{bit}
use Rattle.codes.specs.Pack.{Binary, low, value}

pub length-low : (n v : ℕ) → length (low n v) ≡ n
unfolding low
length-low zero v = refl
length-low (suc n) v = ap suc (length-low n v)

pub low-binary : (n v : ℕ) → Binary (low n v)
unfolding low bit
low-binary zero v = tt
low-binary (suc n) v = (mod-lt (v / 2 ^ n) (zero-lt-suc 1), low-binary n v)

-- higher bits are not seen
pub low-mod : (n j v : ℕ) → low n (v % 2 ^ (j + n)) ≡ low n v
unfolding low bit
low-mod zero j v = refl
low-mod (suc n) j v =
    ap (λ (k : ℕ). low (suc n) (v % 2 ^ k)) (let e : j + suc n ≡ suc j + n = omega arith in e)
    ∙ ap₂ (λ (b : ℕ) (bs : List ℕ). b ∷ bs)
    (ap (λ (x : ℕ). x % 2) (field v (suc j) n)
    ∙ ap (λ (k : ℕ). v / 2 ^ n % 2 ^ k % 2) (let e : suc j ≡ j + 1 = omega arith in e) ∙ mod-mod-pow (v / 2 ^ n) j 1)
    (low-mod n (suc j) v)

-- the bits of a number that is put together from two, the lower of n bits
pub low-join : (n a v : ℕ) → v < 2 ^ n → low n (a * 2 ^ n + v) ≡ low n v
low-join n a v h =
    sym (low-mod n 0 (a * 2 ^ n + v))
    ∙ ap (λ (k : ℕ). low n ((a * 2 ^ n + v) % 2 ^ k)) (zero-add n)
    ∙ ap (low n) (low-digits a n h)

-- m bits and n bits
pub low-add : (m n v : ℕ) → low (m + n) v ≡ low m (v / 2 ^ n) ++ low n v
unfolding low bit
low-add zero n v = ap (λ (k : ℕ). low k v) (zero-add n)
low-add (suc m) n v =
    ap (λ (k : ℕ). low k v) (suc-add m n)
    ∙ ap₂ (λ (b : ℕ) (bs : List ℕ). b ∷ bs)
    (ap (λ (k : ℕ). v / 2 ^ k % 2) (let e : m + n ≡ n + m = omega arith in e) ∙ ap (λ (x : ℕ). x % 2) (sym (shr-shr v n m)))
    (low-add m n v)

pub value_low : (n v : ℕ) → value (low n v) ≡ v % 2 ^ n
unfolding low value bit
value_low zero v = let e : 0 ≡ v % 1 = omega arith in e
value_low (suc n) v =
    ap₂ (λ (k w : ℕ). v / 2 ^ n % 2 * 2 ^ k + w) (length-low n v) (value_low n v)
    ∙ sym (mod-pow-add v 1 n) ∙ ap (λ (k : ℕ). v % 2 ^ k) (one-add n)

pub value-lt : (bs : List ℕ) → Binary bs → value bs < 2 ^ length bs
unfolding value
value-lt [] h = zero-lt-suc 0
value-lt (b ∷ bs) h =
    subst⁻¹ (λ (n : ℕ). value (b ∷ bs) < n) (pow-succ' 2 (length bs)) (digits_lt h.0 (value-lt bs h.1))

pub low_value : (bs : List ℕ) → Binary bs → low (length bs) (value bs) ≡ bs
unfolding low value bit
low_value [] h = refl
low_value (b ∷ bs) h =
    ap₂ (λ (x : ℕ) (l : List ℕ). x ∷ l)
    (ap (λ (x : ℕ). x % 2) (high b (length bs) (value-lt bs h.1)) ∙ mod-eq_of_lt h.0)
    (low-join (length bs) b (value bs) (value-lt bs h.1) ∙ low_value bs h.1)

-- all ones
pub low_ones : (k : ℕ) → low k (2 ^ k - 1) ≡ replicate k 1
unfolding low bit
low_ones zero = refl
low_ones (suc k) =
    ap (low (suc k)) (let e : 2 ^ suc k - 1 ≡ 1 * 2 ^ k + (2 ^ k - 1) = omega (arith, two-pow-succ k, pow_pos k) in e)
    ∙ ap₂ (λ (b : ℕ) (l : List ℕ). b ∷ l) (ap (λ (x : ℕ). x % 2) (high 1 k (ones_lt k)))
    (low-join k 1 (2 ^ k - 1) (ones_lt k) ∙ low_ones k)

-- the lowest h bits, then k ones
pub low-padded : (h k v : ℕ) → low (h + k) (v % 2 ^ h * 2 ^ k + (2 ^ k - 1)) ≡ low h v ++ replicate k 1
low-padded h k v =
    low-add h k (v % 2 ^ h * 2 ^ k + (2 ^ k - 1))
    ∙ ap₂ (λ (a b : List ℕ). a ++ b)
    (ap (low h) (high (v % 2 ^ h) k (ones_lt k)) ∙ ap (λ (n : ℕ). low h (v % 2 ^ n)) (sym (zero-add h)) ∙ low-mod h 0 v)
    (low-join k (v % 2 ^ h) (2 ^ k - 1) (ones_lt k) ∙ low_ones k)

-- a shift to the left drops the bits above
pub shl-mod : (a h k : ℕ) → a * 2 ^ k % 2 ^ (h + k) ≡ a % 2 ^ h * 2 ^ k
shl-mod a h k =
    mod-pow-add (a * 2 ^ k) h k
    ∙ ap₂ (λ (x y : ℕ). x % 2 ^ h * 2 ^ k + y) (shl-shr a k) (mul-mod_left a (2 ^ k))
    ∙ add-zero (a % 2 ^ h * 2 ^ k)
