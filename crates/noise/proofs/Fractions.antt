-- The words at most two bits away from a valid header: each is one header with one mask's bits turned over, so their count is a product.
-- Assumes nothing.
use mathlib.Core.Path.{◌≡◌, refl, sym, ap, ap₂, ◌∙◌, subst}
use Prim.Native.Nat.{ℕ, ◌*◌, ◌^◌, ◌≤◌}
use native.Mathlib.Omega.{arith}
use lib.Bits.{bit_xor, xor_lt, xor_comm}
use lib.Count.{ones_in}
use Rattle.bits.specs.Word.{differences}
use Rattle.bits.proofs.Xor.{xor-undo}
use Rattle.header.specs.Valid.{Valid}
use Rattle.distance.specs.Distance.{distance, ValidWithin}
use Rattle.distance.proofs.Unique.{one-near}
use Rattle.noise.specs.Fractions.{Near, ways, Fractions}
use Rattle.noise.specs.HowMany.{HowMany}
use Rattle.noise.proofs.Counting.{below-count, same_count, Pair, product-count}
use Rattle.noise.proofs.Headers.{valid-count}
use Rattle.noise.proofs.Masks.{Mask, mask-count}

-- the header with the mask's bits turned over
turned : ℕ → ℕ → ℕ
turned mask header = bit_xor header mask

turned-mask : (mask header : ℕ) → bit_xor (turned mask header) header ≡ mask
unfolding turned
turned-mask mask header = xor_comm (bit_xor header mask) header ∙ xor-undo header mask

turned-within : (limit mask header : ℕ) → Mask 32 limit mask → Valid header → ValidWithin limit (turned mask header) header
unfolding distance differences
turned-within limit mask header m valid = record { valid = valid; near = omega (arith, m.few, ap (ones_in 32) (turned-mask mask header)) }

turned-near : (limit word : ℕ) → Pair turned (Mask 32 limit) Valid word → Near limit word
unfolding turned
turned-near limit word (mask, header, m, valid, e) =
    subst (Near limit) e
    (record {
      bits = omega (arith, xor_lt 32 header mask valid.bits m.bits);
      header = header;
      within = turned-within limit mask header m valid;
    })

near-turned : (limit word : ℕ) → Near limit word → Pair turned (Mask 32 limit) Valid word
unfolding turned distance differences
near-turned limit word near =
    let header = near.header in
    let valid = near.within.valid in
    let mask = bit_xor header word in
    let few : ones_in 32 mask ≤ limit = omega (arith, near.within.near, ap (ones_in 32) (xor_comm header word)) in
    (mask, header, record { bits = xor_lt 32 header word valid.bits (omega (arith, near.bits)); few = few }, valid, xor-undo header word)

module _ (limit : ℕ) (le : limit ≤ 2) where
  -- one header is near, so one mask leads to it
  turned-once : (mask header mask' header' : ℕ) → Mask 32 limit mask → Valid header → Mask 32 limit mask' → Valid header'
      → turned mask header ≡ turned mask' header' → (mask ≡ mask') × (header ≡ header')
  turned-once mask header mask' header' m valid m' valid' e =
      let there : ValidWithin limit (turned mask header) header' =
      subst (λ (word : ℕ). ValidWithin limit word header') (sym e) (turned-within limit mask' header' m' valid') in
      let same : header ≡ header' =
      one-near limit (turned mask header) header header' le (turned-within limit mask header m valid) there in
      (sym (turned-mask mask header) ∙ ap₂ bit_xor e same ∙ turned-mask mask' header', same)

  pub near-count : HowMany (Near limit) (ways 32 limit * 2 ^ 21)
  near-count = same_count (turned-near limit) (near-turned limit) (product-count turned turned-once (mask-count 32 limit) valid-count)

pub fractions : Fractions
unfolding ways
fractions = record { words = below-count (2 ^ 32); near = λ limit le. near-count limit (omega arith); clean = refl; one = refl; two = refl }
