-- A row laid over another, and a text that is read into a buffer.
-- Assumes nothing.
use Rattle.std.specs.Prelude.{◌≡◌, List, ◌++◌, ℕ, ◌+◌, ◌≤◌, length, take, drop}
use Rattle.codes.specs.Chain.{Scheme, Builds}
use Rattle.codes.specs.Pack.{packed, filled}

-- the row c over d, from place n on
unfoldable pub laid : List ℕ → ℕ → List ℕ → List ℕ
laid d n c = take n d ++ (c ++ drop (n + length c) d)

-- the bits are a building of a text that there is room for
pub record Readable (scheme : Scheme) (bs : List ℕ) (room : ℕ) : Type 0 where
  pub text : List ℕ
  pub reads : Builds scheme 0 bs text
  pub fits : length text ≤ room

-- the text of the bits stands in the buffer from place n on, up to place r, and nothing else changed
pub record Placed (scheme : Scheme) (bs entry exit : List ℕ) (n r : ℕ) : Type 0 where
  pub text : List ℕ
  pub reads : Builds scheme 0 bs text
  pub place : r ≡ n + length text
  pub whole : exit ≡ laid entry n text

-- the bits stand in the buffer from place n on, then ones up to the byte's end, up to place r, and nothing else changed
pub record Flushed (bs entry exit : List ℕ) (n r : ℕ) : Type 0 where
  pub place : r ≡ n + length (packed (filled bs))
  pub whole : exit ≡ laid entry n (packed (filled bs))

-- the row stands at the front of the buffer, r of them, and nothing else changed
pub record Fronted (row entry exit : List ℕ) (r : ℕ) : Type 0 where
  pub size : r ≡ length row
  pub whole : exit ≡ row ++ drop r entry
