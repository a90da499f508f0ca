-- The highest bit in which two bytes differ, told by the zeros above it in what they differ in.
-- Assumes nothing.
use mathlib.Core.Path.{◌≡◌, sym, ap, subst⁻¹, ◌∙◌}
use Prim.Native.Nat.{ℕ, suc, ◌-◌, ◌*◌, ◌/◌, ◌^◌, ◌≤◌, ◌<◌}
use native.Mathlib.Decide.{dec_lt}
use native.Mathlib.Nat.{div-eq_of_lt, le-div_iff_mul-le}
use native.Mathlib.Omega.{arith}
use lib.Bits.{bit_xor, xor_lt, xor_self, xor_shr}
use lib.Count.{count_leading_zeros}
use lib.Pow.{pow_pos}
use Rattle.std.proofs.lemmas.Nat.{leading_top}
use Rattle.bits.proofs.Xor.{xor-zero}
use Rattle.apart.specs.Steps.Parting.{HighestApart}

-- bytes that are not the same differ in some bit
differing : (a b : ℕ) → (a ≡ b → ⊥) → 0 < bit_xor a b
differing a b differ = pick (dec_lt 0 (bit_xor a b))
  where
    pick : Dec (0 < bit_xor a b) → 0 < bit_xor a b
    pick (yes some) = some
    pick (no none) = absurd (differ (xor-zero a b (omega arith)))

pub not-eight : (a b : ℕ) → a < 256 → b < 256 → (a ≡ b → ⊥) → count_leading_zeros 8 (bit_xor a b) ≤ 7
not-eight a b p q differ =
    let t = leading_top 8 (bit_xor a b) (differing a b differ) (xor_lt 8 a b (omega arith) (omega arith)) in omega (arith, t.1)

pub highest-told : (a b : ℕ) → a < 256 → b < 256 → (a ≡ b → ⊥) → (power : ℕ) → power ≡ 7 - count_leading_zeros 8 (bit_xor a b) → HighestApart a b power
highest-told a b p q differ power e =
    let t = leading_top 8 (bit_xor a b) (differing a b differ) (xor_lt 8 a b (omega arith) (omega arith)) in
    let at : power ≡ t.0 = omega (arith, t.1) in
    subst⁻¹ (HighestApart a b) at
    (record {
      low = omega (arith, t.1);
      above = xor-zero (a / 2 ^ suc t.0) (b / 2 ^ suc t.0) (sym (xor_shr a b (suc t.0)) ∙ div-eq_of_lt t.3);
      apart = λ same.
          let left : 1 ≤ bit_xor a b / 2 ^ t.0 = (le-div_iff_mul-le (pow_pos t.0)).1 (let some : 1 * 2 ^ t.0 ≤ bit_xor a b = omega (arith, t.2) in some) in
          let none : ⊥ = omega (arith, left, xor_shr a b t.0 ∙ ap (bit_xor (a / 2 ^ t.0)) (sym same) ∙ xor_self (a / 2 ^ t.0)) in
          none;
    })
