-- What the 31 bits below the parity leave: it goes through sums, and it is the difference between the check bits asked for and those that came.
-- Assumes nothing.
use mathlib.Core.Path.{◌≡◌, refl, sym, ap, ap₂, ◌∙◌}
use Prim.Native.Nat.{ℕ, ◌*◌, ◌/◌, ◌%◌, ◌^◌}
use native.Mathlib.Nat.{mod-lt}
use lib.Bits.{bit_xor, xor_shifted, xor_self}
use lib.Dec.{lit≤}
use lib.Pow.{pow_pos, mod-pow-add}
use Rattle.header.specs.Check.{generator, remainder, check_of}
use Rattle.header.specs.Steps.Differences.{difference_in}
use Rattle.header.specs.Valid.{Valid, check_in, information_in}
use Rattle.header.proofs.Division.{remainder-sum, longer}
use Rattle.header.proofs.Made.{information-in}
use Rattle.distance.specs.Steps.Left.{left}

pub left-nothing : left 0 ≡ 0
unfolding left remainder generator
left-nothing = refl

pub left-sum : (p q : ℕ) → left (bit_xor p q) ≡ bit_xor (left p) (left q)
unfolding left
left-sum = remainder-sum 21

no_steps : (p : ℕ) → remainder 0 p ≡ p
unfolding remainder
no_steps p = refl

-- the 31 bits below the parity leave the difference between the check bits asked for and those that came
pub left-difference : (h : ℕ) → left (h % 2 ^ 31) ≡ difference_in h
unfolding left difference_in check_in check_of
left-difference h =
    ap (remainder 21)
    (mod-pow-add h 21 10 ∙ sym (xor_shifted (h / 2 ^ 10 % 2 ^ 21) 10 (h % 2 ^ 10) (mod-lt h (pow_pos 10))))
    ∙ remainder-sum 21 (h / 2 ^ 10 % 2 ^ 21 * 2 ^ 10) (h % 2 ^ 10)
    ∙ ap₂ bit_xor
    (ap (λ (n : ℕ). remainder 21 (n * 2 ^ 10)) (sym (information-in h)))
    (longer 0 21 (h % 2 ^ 10) (mod-lt h (pow_pos 10)) (lit≤ tt) ∙ no_steps (h % 2 ^ 10))

-- so those of a valid header leave nothing
pub valid-left : (h : ℕ) → Valid h → left (h % 2 ^ 31) ≡ 0
unfolding difference_in
valid-left h v = left-difference h ∙ ap (bit_xor (check_of (information_in h))) v.checked ∙ xor_self (check_of (information_in h))
