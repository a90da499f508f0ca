-- A buffer of bits over a row of bytes.
-- Assumes nothing.
use Rattle.std.specs.Prelude.{◌≡◌, List, ◌++◌, ℕ, ◌<◌, take, drop, replicate}
use Rattle.bits.specs.Row.{bits}
use Rattle.codes.specs.Pack.{low}

-- what is still to be read: the lowest `have` bits of `held`, then the bits of the bytes from `next` on
unfoldable pub ahead : List ℕ → ℕ → ℕ → ℕ → List ℕ
ahead s held have next = low have held ++ bits (drop next s)

-- w is the next nine of the lowest `have` bits of `held`, with ones for those that are not there
pub record Window (held have w : ℕ) : Type 0 where
  pub nine : low 9 w ≡ take 9 (low have held ++ replicate 9 1)
  pub small : w < 512
