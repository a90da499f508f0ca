-- Several steps of the long division at once: a multiple of the generator that has the highest coefficients is taken away.
-- Assumes nothing.
use mathlib.Core.Path.{◌≡◌, sym, ap, ap₂, ◌∙◌}
use Prim.Native.Nat.{ℕ, zero, suc, ◌+◌, ◌*◌, ◌/◌, ◌%◌, ◌^◌, ◌≤◌, ◌<◌, zero-le}
use native.Mathlib.Nat.{add-zero, add-suc, add_assoc, mul_assoc, mul_comm, zero-mul}
use native.Mathlib.Omega.{arith}
use lib.Dec.{lit<}
use lib.Pow.{pow-add}
use lib.Bits.{bit_xor, xor_shr, xor_self, xor_zero_r}
use Rattle.bits.proofs.Xor.{xor-moved}
use Rattle.header.specs.Check.{generator, remainder}
use Rattle.header.proofs.Division.{shifted-shr, no_top, longer, remainder-sum}

shifted_step : (k j p : ℕ)
    → bit_xor (p * 2 ^ k) (p * 2 ^ k / 2 ^ (k + j + 10) % 2 * (generator * 2 ^ (k + j)))
    ≡ bit_xor p (p / 2 ^ (j + 10) % 2 * (generator * 2 ^ j)) * 2 ^ k
shifted_step k j p =
    let b = p / 2 ^ (j + 10) % 2 in
    ap₂ (λ (x y : ℕ). bit_xor (p * 2 ^ k) (x % 2 * (generator * y)))
    (ap (λ (n : ℕ). p * 2 ^ k / 2 ^ n) (add_assoc k j 10) ∙ shifted-shr k (j + 10) p) (pow-add 2 k j ∙ mul_comm (2 ^ k) (2 ^ j))
    ∙ ap (λ (n : ℕ). bit_xor (p * 2 ^ k) (b * n)) (sym (mul_assoc generator (2 ^ j) (2 ^ k)))
    ∙ ap (bit_xor (p * 2 ^ k)) (sym (mul_assoc b (generator * 2 ^ j) (2 ^ k)))
    ∙ xor-moved k p (b * (generator * 2 ^ j))

-- the steps above x^k do to a number times x^k what they do to the number
shifted : (k j p : ℕ) → remainder (k + j) (p * 2 ^ k) ≡ remainder k (remainder j p * 2 ^ k)
unfolding remainder
shifted k zero p = ap (λ (n : ℕ). remainder n (p * 2 ^ k)) (add-zero k)
shifted k (suc j) p =
    ap (λ (n : ℕ). remainder n (p * 2 ^ k)) (add-suc k j)
    ∙ ap (remainder (k + j)) (shifted_step k j p)
    ∙ shifted k j (bit_xor p (p / 2 ^ (j + 10) % 2 * (generator * 2 ^ j)))

none_left : (k j m : ℕ) → remainder j m ≡ 0 → remainder (k + j) (m * 2 ^ k) ≡ 0
unfolding remainder
none_left k j m e =
    shifted k j m ∙ ap (λ (n : ℕ). remainder k (n * 2 ^ k)) e ∙ ap (remainder k) (zero-mul (2 ^ k)) ∙ longer 0 k 0 (lit< tt) zero-le

-- a multiple of the generator with the coefficients from x^(k + 10) up is taken away: none of these is left
pub taken-lt : (k p m : ℕ) → m / 2 ^ 10 ≡ p / 2 ^ (k + 10) → bit_xor p (m * 2 ^ k) < 2 ^ (k + 10)
taken-lt k p m e =
    no_top (k + 10) (bit_xor p (m * 2 ^ k))
    (xor_shr p (m * 2 ^ k) (k + 10)
    ∙ ap (bit_xor (p / 2 ^ (k + 10))) (shifted-shr k 10 m ∙ e)
    ∙ xor_self (p / 2 ^ (k + 10)))

-- and that is what the steps above x^k do
pub taken : (k j p m : ℕ) → m / 2 ^ 10 ≡ p / 2 ^ (k + 10) → remainder j m ≡ 0 → remainder (k + j) p ≡ remainder k (bit_xor p (m * 2 ^ k))
taken k j p m e none =
    sym
    (remainder-sum (k + j) p (m * 2 ^ k)
    ∙ ap (bit_xor (remainder (k + j) p)) (none_left k j m none)
    ∙ xor_zero_r (remainder (k + j) p))
    ∙ longer k (k + j) (bit_xor p (m * 2 ^ k)) (taken-lt k p m e) (let le : k ≤ k + j = omega arith in le)
