-- What functions of the header answer on the way. None of it is a statement of the document, and none needs belief: what a header is, `Valid` and
-- `Fields` say without it.
-- Assumes nothing.
use Rattle.std.specs.Prelude.{◌≡◌, ℕ, ◌/◌, ◌%◌, ◌^◌}
use Rattle.std.specs.Int.Bits.{bit_xor}
use Rattle.header.specs.Check.{remainder, check_of}
use Rattle.header.specs.Flag.{Odd}
use Rattle.header.specs.Valid.{flag_in, check_in, information_in}

-- m is a multiple of the generator, and its coefficients from x^10 up are the four bits of top
pub record Multiple (top m : ℕ) : Type 0 where
  pub upper : m / 2 ^ 10 ≡ top
  pub divided : remainder 4 m ≡ 0

-- in which of the ten check bits those that the information bits ask for and those that came differ: 0 where they are the same
unfoldable pub difference_in : ℕ → ℕ
difference_in h = bit_xor (check_of (information_in h)) (check_in h)

-- a header whose flag has the right parity, all other bits as in the word
pub record WithParity (word header : ℕ) : Type 0 where
  pub odd : Odd (flag_in header)
  pub low : header % 2 ^ 31 ≡ word % 2 ^ 31
