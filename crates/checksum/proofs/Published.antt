-- The checksum of document 001's Open Binary example (5.1.3), generated from the data values 00 through FF: 4B55, sent as 55 4B.
-- Assumes nothing.
use mathlib.Core.Path.{◌≡◌, refl, ap}
use mathlib.Core.List.{[], ◌∷◌}
use Prim.Native.Nat.{ℕ, ◌/◌, ◌%◌}
use Rattle.bits.specs.Numbers.{numbers}
use Rattle.register.specs.Register.{feedback, start, bit_step, bit_steps, byte_step, checksum_from}
use Rattle.checksum.specs.Checksum.{checksum_of, checksum_bytes}

pub open-binary : checksum_of (numbers 0 256) ≡ 0x4B55
unfolding feedback start bit_step bit_steps byte_step checksum_from checksum_of numbers
open-binary = refl

pub open-binary-sent : checksum_bytes (numbers 0 256) ≡ 0x55 ∷ 0x4B ∷ []
unfolding checksum_bytes
open-binary-sent = ap (λ (n : ℕ). n % 256 ∷ n / 256 ∷ []) open-binary
