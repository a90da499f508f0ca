-- `header::check_bits` meets its contract: what the steps still to come leave of the number is what all of them leave of the information.
-- Assumes nothing.
use mathlib.Core.Path.{◌≡◌, sym, ◌∙◌, subst}
use Prim.Native.Nat.{ℕ, ◌+◌, ◌-◌, ◌*◌, ◌/◌, ◌%◌, ◌^◌, ◌≤◌, ◌<◌}
use native.Mathlib.Omega.{arith}
use native.Mathlib.Nat.{lt_of_lt_of_le, mod-eq_of_lt}
use lib.Bits.{bit_xor, xor_lt}
use lib.Dec.{lit≤}
use lib.Pow.{shl_exact, shl_lt, shr_mod, pow_mono}
use Rattle.bits.proofs.Xor.{xor-undo}
use Rattle.header.specs.Check.{remainder, check_of}
use Rattle.header.specs.Steps.Differences.{Multiple}
use Rattle.header.proofs.Division.{longer}
use Rattle.header.proofs.Several.{taken, taken-lt}
use Rattle.header.proofs.check_bits.Invariants.{Dividing}
use Rattle.header.proofs.check_bits.Goals as goal

-- more steps than the number has coefficients above x^10 leave the same
begin : (information power : ℕ) → information < 2 ^ 21 → 21 ≤ power → Dividing (check_of information) power (information * 2 ^ 10 % 2 ^ 32)
unfolding check_of
begin information power h le =
    let low : information * 2 ^ 10 < 2 ^ 31 = shl_lt 21 10 h in
    subst (Dividing (check_of information) power) (sym (shl_exact 21 10 32 h (lit≤ tt))) (
      low,
      (
        lt_of_lt_of_le low (pow_mono {i = 31} (let up : 31 ≤ power + 10 = omega arith in up)),
        longer 21 power (information * 2 ^ 10) low le,
      ),
    )

-- the shift that makes the multiple times x^k loses nothing, so a turn of the loop is four steps of the division
turn : (r k left m : ℕ) → k ≤ 20 → Multiple (left / 2 ^ (k + 10) % 16) m → Dividing r (k + 4) left
    → Dividing r k (bit_xor left (m * 2 ^ k % 2 ^ 32))
turn r k left m le multiple state = subst (λ (n : ℕ). Dividing r k (bit_xor left n)) (sym exact) (low, (below, left_over))
  where
    top : m / 2 ^ 10 ≡ left / 2 ^ (k + 10)
    top =
        multiple.upper
        ∙ shr_mod 4 (k + 10) (subst (λ (n : ℕ). left < 2 ^ n) (let e : k + 4 + 10 ≡ 4 + (k + 10) = omega arith in e) state.1.0)

    below : bit_xor left (m * 2 ^ k) < 2 ^ (k + 10)
    below = taken-lt k left m top

    low : bit_xor left (m * 2 ^ k) < 2 ^ 31
    low = lt_of_lt_of_le below (pow_mono (let small : k + 10 ≤ 31 = omega arith in small))

    fits : m * 2 ^ k < 2 ^ 31
    fits = subst (λ (n : ℕ). n < 2 ^ 31) (xor-undo left (m * 2 ^ k)) (xor_lt 31 left (bit_xor left (m * 2 ^ k)) state.0 low)

    exact : m * 2 ^ k % 2 ^ 32 ≡ m * 2 ^ k
    exact = mod-eq_of_lt (lt_of_lt_of_le fits (lit≤ tt))

    left_over : remainder k (bit_xor left (m * 2 ^ k)) ≡ r
    left_over = sym (taken k 4 left m top multiple.divided) ∙ state.1.1

pub loop-k-init : goal.loop-k-init
loop-k-init c = begin c.args.information 24 c.requires (lit≤ tt)

pub loop-k-preserved : goal.loop-k-preserved
loop-k-preserved c =
    let k = c.loop-k.k in
    let left = c.loop-k.left in
    let r = check_of c.args.information in
    turn r (4 * (k - 1)) left c.multiple_for.result (omega arith) c.multiple_for.ensures
    (subst (λ (n : ℕ). Dividing r n left) (let down : 4 * k ≡ 4 * (k - 1) + 4 = omega arith in down) c.loop-k.invariant)

pub returns : goal.returns
unfolding remainder
returns c =
    subst (λ (n : ℕ). remainder n c.loop-k.left ≡ check_of c.args.information) (let none : 4 * c.loop-k.k ≡ 0 = omega arith in none) c.loop-k.invariant.1.1
