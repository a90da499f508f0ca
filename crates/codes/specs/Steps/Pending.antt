-- Bytes that go into a buffer by way of bits that are held.
-- Assumes nothing.
use Rattle.std.specs.Prelude.{◌≡◌, List, ◌++◌, ℕ, ◌+◌, ◌≤◌, length, take, drop}
use Rattle.bits.specs.Row.{bits}
use Rattle.codes.specs.Steps.Laid.{laid}
use Rattle.codes.specs.Pack.{low}

-- the bytes w go into a buffer from place m on, as far as place n; `have` bits are held, and `rest` comes after them
pub record Pending (w entry out : List ℕ) (m n held have : ℕ) (rest : List ℕ) : Type 0 where
  pub count : ℕ
  pub place : n ≡ m + count
  pub within : count ≤ length w
  pub pending : bits (drop count w) ≡ low have held ++ rest
  pub whole : out ≡ laid entry m (take count w)
