-- How far a valid header is from a received one, parity bit included (RULES, Packet).
-- Assumes nothing.
use Rattle.std.specs.Prelude.{ℕ, ◌≤◌}
use Rattle.bits.specs.Word.{differences}
use Rattle.header.specs.Valid.{Valid}

-- the distance of two words: in how many of their 32 bits they differ
unfoldable pub distance : ℕ → ℕ → ℕ
distance = differences 32

-- a valid header at most so many bits away
pub record ValidWithin (limit received header : ℕ) : Type 0 where
  pub valid : Valid header
  pub near : distance received header ≤ limit
