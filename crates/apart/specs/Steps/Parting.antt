-- Two rows of bytes compared.
-- Assumes nothing.
use Rattle.std.specs.Prelude.{List, ◌++◌, ◌⊎◌, ◌≡◌, ℕ, suc, ◌/◌, ◌^◌, ◌≤◌, ◌<◌, length, take, Option, Some, None}
use Rattle.bits.specs.Row.{bits}
use Rattle.codes.specs.Steps.Measure.{countable}
use Rattle.apart.specs.Apart.{FirstApart}

-- two bytes are the same above this bit, and are not with it
pub record HighestApart (a b power : ℕ) : Type 0 where
  pub low : power < 8
  pub above : a / 2 ^ suc power ≡ b / 2 ^ suc power
  pub apart : a / 2 ^ power ≡ b / 2 ^ power → ⊥

-- the first bit at which the rows differ; or none, where one is the front of the other
abbrev pub PartsAt : List ℕ → List ℕ → Option ℕ → Type 0
PartsAt a b (Some i) = FirstApart (bits a) (bits b) i
PartsAt a b None = (take (length a) b ≡ a) ⊎ (take (length b) a ≡ b)

-- rows of which the one is no shorter than the other, and not longer by something behind it
pub record Comparable (theirs ours : List ℕ) : Type 0 where
  pub few : length theirs < countable
  pub no-shorter : length ours ≤ length theirs
  pub no_front : (rest : List ℕ) → theirs ≡ ours ++ rest → length rest ≡ 0
