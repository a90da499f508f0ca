-- The register of the checksum: it stays below 2^16, its steps respect the exclusive or, and no step brings two registers together.
-- Assumes nothing.
use mathlib.Core.Path.{◌≡◌, refl, sym, ap, ap₂, ◌∙◌}
use mathlib.Core.Logic.{⊎_elim}
use Prim.Native.Nat.{ℕ, zero, suc, ◌+◌, ◌*◌, ◌/◌, ◌%◌, ◌^◌, ◌<◌, ◌≤◌}
use native.Mathlib.Nat.{mod-lt, zero-add, suc-add, mul-one, mul_assoc, pow-succ', le-mul_of_pos_right}
use native.Mathlib.Omega.{arith}
use lib.Bits.{bit_xor, differ, xor_lt, xor_self, xor_zero_r, xor_mod, xor_shr}
use lib.Pow.{pow_pos}
use Rattle.bits.proofs.Xor.{digit, xor-odd, xor-digits, xor-cross, xor-moved, xor-zero, xor-cancel}
use Rattle.register.specs.Register.{feedback, bit_step, bit_steps}

-- a zero leaves at the top: the register only moves
pub bit-low : (r : ℕ) → r < 2 ^ 15 → bit_step r ≡ r * 2
unfolding bit_step feedback
bit-low r h =
    let z : r / 2 ^ 15 % 2 ≡ 0 = omega arith in
    let m : r * 2 % 2 ^ 16 ≡ r * 2 = omega arith in
    rw (z, m) (xor_zero_r (r * 2))

-- a one leaves at the top
pub bit_high : (r : ℕ) → 2 ^ 15 ≤ r → r < 2 ^ 16 → bit_step r ≡ bit_xor (r * 2 % 2 ^ 16) feedback
unfolding bit_step feedback
bit_high r l h = let o : r / 2 ^ 15 % 2 ≡ 1 = omega arith in rw o

pub bit-lt : (r : ℕ) → bit_step r < 2 ^ 16
unfolding bit_step feedback
bit-lt r =
    xor_lt 16 (r * 2 % 2 ^ 16) (r / 2 ^ 15 % 2 * feedback) (mod-lt (r * 2) (pow_pos 16)) (omega arith)

top_xor : (a b : ℕ) → bit_xor a b / 2 ^ 15 % 2 ≡ differ (a / 2 ^ 15 % 2) (b / 2 ^ 15 % 2)
top_xor a b = ap (λ (n : ℕ). n % 2) (xor_shr a b 15) ∙ xor-odd (a / 2 ^ 15) (b / 2 ^ 15)

pub bit-xor : (a b : ℕ) → bit_step (bit_xor a b) ≡ bit_xor (bit_step a) (bit_step b)
unfolding bit_step
bit-xor a b =
    ap₂ bit_xor (ap (λ (n : ℕ). n % 2 ^ 16) (sym (xor-moved 1 a b)) ∙ xor_mod (a * 2) (b * 2) 16)
    (ap (λ (n : ℕ). n * feedback) (top_xor a b)
    ∙ sym (xor-digits (a / 2 ^ 15 % 2) (b / 2 ^ 15 % 2) feedback (mod-lt (a / 2 ^ 15) (pow_pos 1)) (mod-lt (b / 2 ^ 15) (pow_pos 1))))
    ∙ xor-cross (a * 2 % 2 ^ 16) (b * 2 % 2 ^ 16) (a / 2 ^ 15 % 2 * feedback) (b / 2 ^ 15 % 2 * feedback)

-- the feedback is odd, so that only zero steps to zero
bit-zero : (r : ℕ) → r < 2 ^ 16 → bit_step r ≡ 0 → r ≡ 0
unfolding feedback
bit-zero r h e =
    ⊎_elim (λ z. omega (arith, bit-low r (omega arith)))
    (λ o. let same : r * 2 % 2 ^ 16 ≡ feedback = xor-zero (r * 2 % 2 ^ 16) feedback (sym (bit_high r (omega arith) h) ∙ e) in omega arith)
    (digit (r / 2 ^ 15) (omega arith))

pub steps-lt : (n r : ℕ) → r < 2 ^ 16 → bit_steps n r < 2 ^ 16
unfolding bit_steps
steps-lt zero r h = h
steps-lt (suc n) r h = steps-lt n (bit_step r) (bit-lt r)

pub steps-xor : (n a b : ℕ) → bit_steps n (bit_xor a b) ≡ bit_xor (bit_steps n a) (bit_steps n b)
unfolding bit_steps
steps-xor zero a b = refl
steps-xor (suc n) a b = ap (bit_steps n) (bit-xor a b) ∙ steps-xor n (bit_step a) (bit_step b)

steps-zero : (n r : ℕ) → r < 2 ^ 16 → bit_steps n r ≡ 0 → r ≡ 0
unfolding bit_steps
steps-zero zero r h e = e
steps-zero (suc n) r h e = bit-zero r h (steps-zero n (bit_step r) (bit-lt r) e)

-- no number of steps brings two registers together
pub steps-injective : (n a b : ℕ) → a < 2 ^ 16 → b < 2 ^ 16 → bit_steps n a ≡ bit_steps n b → a ≡ b
steps-injective n a b ha hb e =
    xor-zero a b
    (steps-zero n (bit_xor a b) (xor_lt 16 a b ha hb)
    (steps-xor n a b ∙ ap (bit_xor (bit_steps n a)) (sym e) ∙ xor_self (bit_steps n a)))

-- two words that enter one register are told apart
pub steps-tell : (n r v w : ℕ) → r < 2 ^ 16 → v < 2 ^ 16 → w < 2 ^ 16 → bit_steps n (bit_xor r v) ≡ bit_steps n (bit_xor r w) → v ≡ w
steps-tell n r v w hr hv hw e =
    xor-cancel r v w (steps-injective n (bit_xor r v) (bit_xor r w) (xor_lt 16 r v hr hv) (xor_lt 16 r w hr hw) e)

pub steps-add : (m n r : ℕ) → bit_steps (m + n) r ≡ bit_steps n (bit_steps m r)
unfolding bit_steps
steps-add zero n r = rw zero-add
steps-add (suc m) n r = rw suc-add (steps-add m n (bit_step r))

-- the first of some steps may be the last
pub steps-last : (n r : ℕ) → bit_steps n (bit_step r) ≡ bit_step (bit_steps n r)
unfolding bit_steps
steps-last zero r = refl
steps-last (suc n) r = steps-last n (bit_step r)

-- what lies below the top only moves, until it gets there
pub steps_low : (n r : ℕ) → r * 2 ^ n < 2 ^ 16 → bit_steps n r ≡ r * 2 ^ n
unfolding bit_steps
steps_low zero r h = sym (mul-one r)
steps_low (suc n) r h =
    let e : r * 2 ^ suc n ≡ r * 2 * 2 ^ n = ap (λ (p : ℕ). r * p) (pow-succ' 2 n) ∙ sym (mul_assoc r 2 (2 ^ n)) in
    ap (bit_steps n) (bit-low r (omega (arith, e, le-mul_of_pos_right (r * 2) (pow_pos n))))
    ∙ steps_low n (r * 2) (rw e at h)
    ∙ sym e
