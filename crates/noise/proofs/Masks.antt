-- A mask says which bits of a word are turned over. How many masks have at most so many ones, for every width and every limit.
-- Assumes nothing.
use mathlib.Core.Path.{◌≡◌, sym, ap, subst}
use mathlib.Core.Logic.{◌⊎◌, inl, inr}
use Prim.Native.Nat.{ℕ, zero, suc, ◌+◌, ◌*◌, ◌/◌, ◌%◌, ◌^◌, ◌≤◌, ◌<◌}
use native.Mathlib.Nat.{pow-suc}
use native.Mathlib.Omega.{arith}
use lib.Arith.{lt-one}
use lib.Count.{ones_in}
use lib.Pow.{pow_pos}
use Rattle.bits.specs.Word.{differences}
use Rattle.bits.proofs.Ones.{no_ones, differences-self}
use Rattle.bits.proofs.Xor.{digit-of}
use Rattle.noise.specs.Fractions.{ways}
use Rattle.noise.specs.HowMany.{HowMany}
use Rattle.noise.proofs.Counting.{below-count, same_count, Image, image-count, sum-count}

-- a mask of so many bits with at most so many ones
pub record Mask (width limit mask : ℕ) : Type 0 where
  pub bits : mask < 2 ^ width
  pub few : ones_in width mask ≤ limit

-- ---- no bits, or no ones: the one mask is 0

nothing : (width limit : ℕ) → Mask width limit 0
unfolding differences
nothing width limit = record { bits = pow_pos width; few = let none : ones_in width 0 ≡ 0 = differences-self width 0 in omega arith }

alone-count : (width limit : ℕ) → ((mask : ℕ) → Mask width limit mask → mask ≡ 0) → HowMany (Mask width limit) 1
alone-count width limit alone =
    same_count (λ mask h. subst (Mask width limit) (sym (lt-one h)) (nothing width limit))
    (λ mask m. let none : mask ≡ 0 = alone mask m in omega arith)
    (below-count 1)

-- ---- one bit more, below the others

-- the masks that end in this bit
abbrev Ending : ℕ → ℕ → ℕ → ℕ → Type 0
Ending last width limit = Image (λ (rest : ℕ). rest * 2 + last) (Mask width limit)

ending-count : (last width limit count : ℕ) → HowMany (Mask width limit) count → HowMany (Ending last width limit) count
ending-count last width limit count = image-count (λ (rest : ℕ). rest * 2 + last) (λ x y mx my e. omega arith)

module _ (last width rest limit : ℕ) (counted : last + rest ≡ limit) where
  ending-mask : last < 2 → (mask : ℕ) → Ending last width rest mask → Mask (suc width) limit mask
  unfolding ones_in
  ending-mask digit mask (upper, m, whole) =
      let half : mask / 2 ≡ upper = omega arith in
      record { bits = omega (arith, m.bits, pow-suc 2 width); few = omega (arith, m.few, ap (ones_in width) half) }

  mask-ending : (mask : ℕ) → mask % 2 ≡ last → Mask (suc width) limit mask → Ending last width rest mask
  unfolding ones_in
  mask-ending mask e m = (mask / 2, record { bits = omega (arith, m.bits, pow-suc 2 width); few = omega (arith, m.few) }, omega arith)

abbrev Either : ℕ → ℕ → ℕ → Type 0
Either width limit mask = Ending 0 width (suc limit) mask ⊎ Ending 1 width limit mask

either-mask : (width limit mask : ℕ) → Either width limit mask → Mask (suc width) (suc limit) mask
either-mask width limit mask (inl e) = ending-mask 0 width (suc limit) (suc limit) (omega arith) (omega arith) mask e
either-mask width limit mask (inr e) = ending-mask 1 width limit (suc limit) (omega arith) (omega arith) mask e

mask-either : (width limit mask : ℕ) → Mask (suc width) (suc limit) mask → (mask % 2 ≡ 0) ⊎ (mask % 2 ≡ 1) → Either width limit mask
mask-either width limit mask m (inl e) = inl (mask-ending 0 width (suc limit) (suc limit) (omega arith) mask e m)
mask-either width limit mask m (inr e) = inr (mask-ending 1 width limit (suc limit) (omega arith) mask e m)

pub mask-count : (width limit : ℕ) → HowMany (Mask width limit) (ways width limit)
unfolding ways
mask-count zero limit = alone-count zero limit (λ mask m. lt-one m.bits)
mask-count (suc width) zero = alone-count (suc width) zero (λ mask m. no_ones (suc width) mask m.bits (omega (arith, m.few)))
mask-count (suc width) (suc limit) =
    same_count (either-mask width limit) (λ mask m. mask-either width limit mask m (digit-of mask))
    (sum-count (ending-count 0 width (suc limit) (ways width (suc limit)) (mask-count width (suc limit)))
    (ending-count 1 width limit (ways width limit) (mask-count width limit)) (λ mask even odd. omega (arith, even.2, odd.2)))
