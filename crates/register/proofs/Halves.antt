-- Half a byte by the table: what lies below the register's top only moves up, and what leaves at its top is looked up.
-- Assumes nothing.
use mathlib.Core.List.{List, [], map}
use mathlib.Core.Path.{◌≡◌, sym, ap, ap₂, ◌∙◌}
use Prim.Native.Nat.{ℕ, ◌+◌, ◌*◌, ◌/◌, ◌%◌, ◌^◌, ◌<◌}
use native.Mathlib.Nat.{mod-lt}
use native.Mathlib.Omega.{arith}
use lib.Bits.{bit_xor, xor_comm, xor_lt, xor_shifted}
use lib.ListN.{length, get_or}
use lib.Pow.{pow_pos}
use Rattle.bits.specs.Numbers.{numbers}
use Rattle.bits.proofs.Listed.{wrong, none-wrong}
use Rattle.bits.proofs.Numbers.{map-numbers}
use Rattle.bits.proofs.Xor.{xor_assoc, xor-moved}
use Rattle.register.specs.Register.{bit_steps, byte_step}
use Rattle.register.specs.Steps.Halves.{half_step, entry_of, entries}
use Rattle.register.proofs.Register.{steps-xor, steps-add, steps_low}

-- the halves whose entries are not theirs, and how many entries there are
unfoldable pub tested : List ℕ → List ℕ × ℕ
tested table = (wrong entry_of 0 table, length table)

-- what the test says
pub all_right : (table : List ℕ) → tested table ≡ ([], 16) → table ≡ entries
unfolding tested entries
all_right table t =
    none-wrong entry_of 0 table (ap (λ (r : List ℕ × ℕ). r.0) t)
    ∙ ap (λ (n : ℕ). map entry_of (numbers 0 n)) (ap (λ (r : List ℕ × ℕ). r.1) t)

entry_at : (half : ℕ) → half < 16 → get_or entries half 0 ≡ bit_steps 4 (half * 2 ^ 12)
unfolding entries entry_of
entry_at half h = map-numbers entry_of 0 16 half h ∙ ap entry_of (let same : 0 + half ≡ half = omega arith in same)

-- a register is its top and what lies below
two-parts : (r : ℕ) → r ≡ bit_xor (r % 2 ^ 12) (r / 2 ^ 12 * 2 ^ 12)
two-parts r =
    sym (xor_comm (r % 2 ^ 12) (r / 2 ^ 12 * 2 ^ 12) ∙ xor_shifted (r / 2 ^ 12) 12 (r % 2 ^ 12) (mod-lt r (pow_pos 12))
    ∙ (let whole : r / 2 ^ 12 * 2 ^ 12 + r % 2 ^ 12 ≡ r = omega arith in whole))

-- the step of half a byte from the table
pub half-by-table : (r half : ℕ) → r < 2 ^ 16 → half < 16 → bit_xor (r * 2 ^ 4 % 2 ^ 16) (get_or entries (bit_xor (r / 2 ^ 12) half) 0) ≡ half_step r half
unfolding half_step
half-by-table r half hr hh =
    let top = r / 2 ^ 12 in
    let leaving = bit_xor top half in
    let below = r % 2 ^ 12 in
    let moved : bit_steps 4 below ≡ r * 2 ^ 4 % 2 ^ 16 = steps_low 4 below (omega arith) ∙ (let e : below * 2 ^ 4 ≡ r * 2 ^ 4 % 2 ^ 16 = omega arith in e) in
    ap₂ bit_xor (sym moved) (entry_at leaving (xor_lt 4 top half (omega arith) hh))
    ∙ sym (steps-xor 4 below (leaving * 2 ^ 12))
    ∙ ap (bit_steps 4)
    (ap (bit_xor below) (sym (xor-moved 12 top half)) ∙ sym (xor_assoc below (top * 2 ^ 12) (half * 2 ^ 12))
    ∙ ap (λ (n : ℕ). bit_xor n (half * 2 ^ 12)) (sym (two-parts r)))

-- a byte is its upper half, and then its lower half
pub byte-by-halves : (r b : ℕ) → half_step (half_step r (b / 16)) (b % 16) ≡ byte_step r b
unfolding half_step byte_step
byte-by-halves r b =
    let upper = b / 16 * 2 ^ 12 in
    let lower = b % 16 * 2 ^ 8 in
    let moved : bit_steps 4 lower ≡ b % 16 * 2 ^ 12 = steps_low 4 lower (omega arith) ∙ (let e : lower * 2 ^ 4 ≡ b % 16 * 2 ^ 12 = omega arith in e) in
    ap (λ (n : ℕ). bit_steps 4 (bit_xor (bit_steps 4 (bit_xor r upper)) n)) (sym moved)
    ∙ ap (bit_steps 4) (sym (steps-xor 4 (bit_xor r upper) lower))
    ∙ sym (steps-add 4 4 (bit_xor (bit_xor r upper) lower))
    ∙ ap (bit_steps 8)
    (xor_assoc r upper lower
    ∙ ap (bit_xor r) (xor_shifted (b / 16) 12 lower (omega arith) ∙ (let e : upper + lower ≡ b * 2 ^ 8 = omega arith in e)))
