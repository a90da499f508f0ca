-- A row put into a buffer.
-- Assumes nothing.
use Rattle.std.specs.Prelude.{◌≡◌, List, ℕ, ◌+◌, length}
use Rattle.codes.specs.Steps.Laid.{laid}

-- room enough for every line
abbrev pub room : ℕ
room = 128

-- the row stands in the buffer from place n on, up to place r, and nothing else changed
pub record PutsRow (row entry exit : List ℕ) (n r : ℕ) : Type 0 where
  pub place : r ≡ n + length row
  pub whole : exit ≡ laid entry n row
