-- Codes passed on the way through the data, a word of bits at a time. It holds of every scheme.
-- Assumes nothing.
use Rattle.std.specs.Prelude.{◌≡◌, List, ◌++◌, ℕ, ◌+◌, ◌*◌, ◌≤◌, ◌<◌, length, drop}
use Rattle.bits.specs.Row.{bits}
use Rattle.codes.specs.Chain.{Scheme}
use Rattle.codes.specs.Pack.{low, value}
use Rattle.codes.specs.Steps.Laid.{Readable}
use Rattle.codes.specs.Steps.Passed.{LaidSoFar}
use Rattle.codes.specs.declared.Laid.{Laid}

-- few of the lowest `have` bits of a number are left, and no code said more characters than it has bits
pub record Few (have left count : ℕ) : Type 0 where
  pub last : left ≤ 24
  pub brief : count + left ≤ have

-- codes of the lowest `have` bits of `held` were passed, and what they said stands in the buffer from place n on
abbrev pub SkimsInto : Scheme → ℕ → ℕ → List ℕ → List ℕ → ℕ → Laid → Type 0
SkimsInto scheme held have entry exit n r = Few have r.left r.count × LaidSoFar scheme (low have held) (low r.left held) entry exit n (n + r.count)

-- the lowest `have` bits of `held` begin a building of a text that there is room for
abbrev pub Begun : Scheme → ℕ → ℕ → ℕ → Type 0
Begun scheme held have room = (rest : List ℕ) × Readable scheme (low have held ++ rest) room

-- the bytes `rest` without their first `skip` bits are still to be read, and what was said stands at the front of the buffer, up to place n
pub record LaidWords (scheme : Scheme) (s entry out rest : List ℕ) (skip n : ℕ) : Type 0 where
  pub short : skip < 8
  pub within : skip ≤ length rest * 8
  pub room : n ≤ length entry
  pub laid : LaidSoFar scheme (bits s) (drop skip (bits rest)) entry out 0 n

-- the last bytes as a number, whose lowest `have` bits are theirs without the first `skip`; and the place behind them
pub record Last (rest : List ℕ) (skip held have end : ℕ) : Type 0 where
  pub whole : held ≡ value (bits rest)
  pub same : low have held ≡ drop skip (bits rest)
  pub size : have + skip ≡ length rest * 8
  pub behind : end ≡ length rest
