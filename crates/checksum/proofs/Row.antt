-- The checksum of a row of bytes is sent as two bytes that tell it.
-- Assumes nothing.
use mathlib.Core.Path.{◌≡◌, refl, sym, ap₂, ◌∙◌}
use mathlib.Core.List.{List, [], ◌∷◌}
use Prim.Native.Nat.{ℕ, ◌+◌, ◌*◌, ◌/◌, ◌%◌}
use native.Mathlib.Nat.{div-add-mod'}
use lib.ListN.{length}
use Rattle.checksum.specs.Checksum.{checksum_of, checksum_bytes}

pub checksum-bytes-length : (s : List ℕ) → length (checksum_bytes s) ≡ 2
unfolding checksum_bytes
checksum-bytes-length s = refl

-- two bytes are the ones that are sent just where the first is the low byte of the checksum and the second the high byte
module _ (s : List ℕ) {low high : ℕ} where
  pub sent_is : low ≡ checksum_of s % 256 → high ≡ checksum_of s / 256 → low ∷ high ∷ [] ≡ checksum_bytes s
  unfolding checksum_bytes
  sent_is l h = cc

  pub sent-low : low ∷ high ∷ [] ≡ checksum_bytes s → low ≡ checksum_of s % 256
  unfolding checksum_bytes
  sent-low e = cc

  pub sent-high : low ∷ high ∷ [] ≡ checksum_bytes s → high ≡ checksum_of s / 256
  unfolding checksum_bytes
  sent-high e = cc

pub sent-tells : (a b : List ℕ) → checksum_bytes a ≡ checksum_bytes b → checksum_of a ≡ checksum_of b
unfolding checksum_bytes
sent-tells a b e =
    sym (div-add-mod' (checksum_of a) 256)
    ∙ ap₂ (λ (high low : ℕ). high * 256 + low) (sent-high b e) (sent-low b e)
    ∙ div-add-mod' (checksum_of b) 256
