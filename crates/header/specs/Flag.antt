-- The flag byte (001, 3.1, Table 1). Bit 1 is lowest: bit 1 spare, bit 2 time sync, bits 5/4/3 extended type, bits 7/6 type, bit 8 parity.
-- Assumes nothing.
use Rattle.std.specs.Prelude.{◌≡◌, ℕ, ◌-◌, ◌+◌, ◌/◌, ◌%◌, ◌^◌}
use Rattle.std.specs.Int.Count.{ones_in}

-- so many bits of the flag, from bit n up
unfoldable pub flag_bits : ℕ → ℕ → ℕ → ℕ
flag_bits n many flag = flag / 2 ^ (n - 1) % 2 ^ many

unfoldable pub spare_in : ℕ → ℕ
spare_in = flag_bits 1 1

unfoldable pub sync_in : ℕ → ℕ
sync_in = flag_bits 2 1

unfoldable pub extended_type_in : ℕ → ℕ
extended_type_in = flag_bits 3 3

unfoldable pub message_type_in : ℕ → ℕ
message_type_in = flag_bits 6 2

-- the number of ones in the byte is odd
unfoldable pub Odd : ℕ → Type 0
Odd flag = ones_in 8 flag % 2 ≡ 1

-- the bit 8 that makes it so, above the seven bits `low`
unfoldable pub parity_for : ℕ → ℕ
parity_for low = (ones_in 7 low + 1) % 2
