-- Laws of the exclusive or that the kit lacks: it is associative, undoes itself, is zero only of equal numbers, and moves up with them.
-- Assumes nothing.
use mathlib.Core.Path.{◌≡◌, refl, sym, ap, ap₂, ◌∙◌}
use Prim.Native.Nat.{ℕ, zero, suc, ◌+◌, ◌*◌, ◌/◌, ◌%◌, ◌^◌, ◌<◌}
use native.Mathlib.Nat.{mod-lt, zero-lt-suc, zero-mul, add-zero}
use native.Mathlib.Omega.{arith}
use mathlib.Core.Logic.{◌⊎◌, inl, inr}
use lib.Arith.{bin_ind, digits_div, digits_mod}
use lib.Bits.{bit_xor, differ, xor_step, xor_self, xor_zero_r, xor_comm, xor_block}
use lib.Pow.{pow_pos}

pub two_pos : 0 < 2
two_pos = zero-lt-suc 1

-- a binary digit is 0 or 1
pub digit : (n : ℕ) → n < 2 → (n ≡ 0) ⊎ (n ≡ 1)
digit zero h = inl refl
digit (suc zero) h = inr refl
digit (suc (suc n)) h = absurd (let no : ⊥ = omega arith in no)

pub digit-of : (n : ℕ) → (n % 2 ≡ 0) ⊎ (n % 2 ≡ 1)
digit-of n = digit (n % 2) (mod-lt n two_pos)

differ-assoc : (x y z : ℕ) → x < 2 → y < 2 → z < 2 → differ (differ x y) z ≡ differ x (differ y z)
differ-assoc zero y z hx hy hz = refl
differ-assoc (suc zero) zero z hx hy hz = refl
differ-assoc (suc zero) (suc zero) zero hx hy hz = refl
differ-assoc (suc zero) (suc zero) (suc zero) hx hy hz = refl
differ-assoc (suc zero) (suc zero) (suc (suc z)) hx hy hz = absurd (let no : ⊥ = omega arith in no)
differ-assoc (suc zero) (suc (suc y)) z hx hy hz = absurd (let no : ⊥ = omega arith in no)
differ-assoc (suc (suc x)) y z hx hy hz = absurd (let no : ⊥ = omega arith in no)

differ-lt : (x y : ℕ) → x < 2 → y < 2 → differ x y < 2
differ-lt zero y hx hy = hy
differ-lt (suc zero) zero hx hy = hx
differ-lt (suc zero) (suc y) hx hy = omega arith
differ-lt (suc (suc x)) y hx hy = absurd (let no : ⊥ = omega arith in no)

-- the two ends of a number that is put together from a half and a digit
pub xor-half : (a b : ℕ) → bit_xor a b / 2 ≡ bit_xor (a / 2) (b / 2)
xor-half a b =
    ap (λ (n : ℕ). n / 2) (xor_step a b)
    ∙ digits_div (bit_xor (a / 2) (b / 2)) (differ-lt (a % 2) (b % 2) (mod-lt a two_pos) (mod-lt b two_pos))

pub xor-odd : (a b : ℕ) → bit_xor a b % 2 ≡ differ (a % 2) (b % 2)
xor-odd a b =
    ap (λ (n : ℕ). n % 2) (xor_step a b)
    ∙ digits_mod (bit_xor (a / 2) (b / 2)) (differ-lt (a % 2) (b % 2) (mod-lt a two_pos) (mod-lt b two_pos))

pub xor_assoc : (a b c : ℕ) → bit_xor (bit_xor a b) c ≡ bit_xor a (bit_xor b c)
xor_assoc a =
    bin_ind (λ (n : ℕ). (b c : ℕ) → bit_xor (bit_xor n b) c ≡ bit_xor n (bit_xor b c)) (λ b c. refl)
    (λ n ih b c.
    xor_step (bit_xor n b) c
    ∙ ap₂ (λ (x y : ℕ). x * 2 + y)
    (ap (λ (x : ℕ). bit_xor x (c / 2)) (xor-half n b) ∙ ih (b / 2) (c / 2) ∙ ap (bit_xor (n / 2)) (sym (xor-half b c)))
    (ap (λ (x : ℕ). differ x (c % 2)) (xor-odd n b)
    ∙ differ-assoc (n % 2) (b % 2) (c % 2) (mod-lt n two_pos) (mod-lt b two_pos) (mod-lt c two_pos)
    ∙ ap (differ (n % 2)) (sym (xor-odd b c)))
    ∙ sym (xor_step n (bit_xor b c))) a

-- what was put in twice is gone
pub xor-undo : (a b : ℕ) → bit_xor a (bit_xor a b) ≡ b
xor-undo a b = sym (xor_assoc a a b) ∙ ap (λ (x : ℕ). bit_xor x b) (xor_self a)

pub xor-cancel : (a b c : ℕ) → bit_xor a b ≡ bit_xor a c → b ≡ c
xor-cancel a b c e = sym (xor-undo a b) ∙ ap (bit_xor a) e ∙ xor-undo a c

pub xor-zero : (a b : ℕ) → bit_xor a b ≡ 0 → a ≡ b
xor-zero a b e = sym (xor-cancel a b a (e ∙ sym (xor_self a)))

-- two pairs joined crosswise
pub xor-cross : (a b c d : ℕ) → bit_xor (bit_xor a b) (bit_xor c d) ≡ bit_xor (bit_xor a c) (bit_xor b d)
xor-cross a b c d =
    xor_assoc a b (bit_xor c d)
    ∙ ap (bit_xor a) (sym (xor_assoc b c d) ∙ ap (λ (x : ℕ). bit_xor x d) (xor_comm b c) ∙ xor_assoc c b d)
    ∙ sym (xor_assoc a c (bit_xor b d))

-- two numbers moved up alike
pub xor-moved : (k a b : ℕ) → bit_xor (a * 2 ^ k) (b * 2 ^ k) ≡ bit_xor a b * 2 ^ k
xor-moved k a b =
    ap₂ bit_xor (sym (add-zero (a * 2 ^ k))) (sym (add-zero (b * 2 ^ k)))
    ∙ xor_block k a b 0 0 (pow_pos k) (pow_pos k)
    ∙ add-zero (bit_xor a b * 2 ^ k)

-- a digit times a number: the exclusive or of two such products
pub xor-digits : (x y g : ℕ) → x < 2 → y < 2 → bit_xor (x * g) (y * g) ≡ differ x y * g
xor-digits zero y g hx hy = ap (λ (n : ℕ). bit_xor n (y * g)) (zero-mul g)
xor-digits (suc zero) zero g hx hy = ap (bit_xor (1 * g)) (zero-mul g) ∙ xor_zero_r (1 * g)
xor-digits (suc zero) (suc zero) g hx hy = xor_self (1 * g) ∙ sym (zero-mul g)
xor-digits (suc zero) (suc (suc y)) g hx hy = absurd (let no : ⊥ = omega arith in no)
xor-digits (suc (suc x)) y g hx hy = absurd (let no : ⊥ = omega arith in no)
