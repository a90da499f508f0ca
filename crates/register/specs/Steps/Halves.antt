-- Half a byte in the register, and the table of what each leaves.
-- Assumes nothing.
use Rattle.std.specs.Prelude.{List, map, ℕ, ◌*◌, ◌^◌}
use Rattle.std.specs.Int.Bits.{bit_xor}
use Rattle.bits.specs.Numbers.{numbers}
use Rattle.register.specs.Register.{bit_steps}

-- half a byte enters at the register's top, and its four bits pass, highest first
unfoldable pub half_step : ℕ → ℕ → ℕ
half_step r half = bit_steps 4 (bit_xor r (half * 2 ^ 12))

-- four bit steps of it alone
unfoldable pub entry_of : ℕ → ℕ
entry_of half = bit_steps 4 (half * 2 ^ 12)

-- of all sixteen
unfoldable pub entries : List ℕ
entries = map entry_of (numbers 0 16)
