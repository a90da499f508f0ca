-- The 32 bits of a header: the flag, a 14-bit length, 10 check bits (001, 3.2, Figure 5).
-- Assumes nothing.
use Rattle.std.specs.Prelude.{◌≡◌, ℕ, ◌+◌, ◌*◌, ◌/◌, ◌%◌, ◌^◌, ◌<◌}
use Rattle.header.specs.Check.{check_of}
use Rattle.header.specs.Flag.{Odd}

unfoldable pub flag_in : ℕ → ℕ
flag_in h = h / 2 ^ 24

unfoldable pub length_in : ℕ → ℕ
length_in h = h / 2 ^ 10 % 2 ^ 14

unfoldable pub check_in : ℕ → ℕ
check_in h = h % 2 ^ 10

-- the 21 information bits: the low 7 bits of the flag, then the length
unfoldable pub information_in : ℕ → ℕ
information_in h = flag_in h % 2 ^ 7 * 2 ^ 14 + length_in h

-- a valid header: 32 bits whose check and flag parity are both right, with any type and any length
pub record Valid (h : ℕ) : Type 0 where
  pub bits : h < 2 ^ 32
  pub checked : check_in h ≡ check_of (information_in h)
  pub parity : Odd (flag_in h)
