-- How another maker's data compares with ours (RULES, Judging).
-- Assumes nothing.
use Rattle.std.specs.Prelude.{List, ◌≡◌, ℕ, ◌+◌, length, Option, Some, None}
use Rattle.bits.specs.Row.{bits}
use Rattle.apart.specs.Apart.{FirstApart}
use Rattle.apart.specs.declared.Judgement.{Judgement}

-- their data bytes are ours; or they are not, and this is the first bit at which the two rows of bits differ
abbrev pub Compares : (theirs ours : List ℕ) → Option ℕ → Type 0
Compares theirs ours None = theirs ≡ ours
Compares theirs ours (Some bit) = FirstApart (bits theirs) (bits ours) bit

-- and they are so many bytes more than ours
pub record Against (theirs ours : List ℕ) (judgement : Judgement) : Type 0 where
  pub compares : Compares theirs ours judgement.departs_at
  pub longer : length theirs ≡ length ours + judgement.more
