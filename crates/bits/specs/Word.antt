-- Words of bits as numbers: bit k of a number is its binary digit of weight 2^k.
-- Assumes nothing.
use Rattle.std.specs.Prelude.{ℕ, ◌/◌, ◌%◌, ◌^◌}
use Rattle.std.specs.Int.Bits.{bit_xor}
use Rattle.std.specs.Int.Count.{ones_in}

-- bit k of n
unfoldable pub bit : ℕ → ℕ → ℕ
bit k n = n / 2 ^ k % 2

-- in how many of their low k bits two numbers differ
unfoldable pub differences : ℕ → ℕ → ℕ → ℕ
differences k a b = ones_in k (bit_xor a b)
