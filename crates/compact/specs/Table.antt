-- A table of codes as it is read: what a format proves of its table, and what its steps answer. Nothing here is a statement of the document.
-- Assumes nothing.
use Rattle.std.specs.Prelude.{List, ℕ, ◌++◌, ◌+◌, ◌≤◌, ◌<◌, ◌≡◌, take, replicate, T}
use Rattle.codes.specs.Chain.{Entry, single}
use Rattle.codes.specs.Pack.{low}
use Rattle.codes.specs.Reading.{Halts}
use Rattle.codes.specs.Steps.BitBuffer.{Window}
use Rattle.codes.specs.Steps.Passed.{CountedSoFar}
use Rattle.codes.specs.Steps.Taken.{FirstCode}
use Rattle.codes.specs.declared.Code.{Code}
use Rattle.codes.specs.declared.Skimmed.{Skimmed}
use Rattle.codes.proofs.EveryElement.{every}
use Rattle.codes.proofs.SchemeLaws.{Laws}
use Rattle.codes.proofs.SingleTable.{mute}
use Rattle.codes.proofs.SizeBounds.{brief}

-- no code begins another, none is a fill and each has bits; nothing is announced; no code says more characters than it has bits
pub record TableLaws (table : List Entry) : Type 0 where
  pub laws : Laws (single table 7)
  pub mutes : T (every mute table)
  pub briefs : T (every (brief 1) table)

-- no code begins bits of which these are the next nine
abbrev pub NoneBegins : List Entry → ℕ → Type 0
NoneBegins table nine = (row : List ℕ) → low 9 nine ≡ take 9 (row ++ replicate 9 1) → Halts (single table 7) 0 row

-- the code of the table that begins the lowest `have` bits of `held`, which has no more than these
pub record NextCode (table : List Entry) (held have : ℕ) (r : Code) : Type 0 where
  pub nine : ℕ
  pub window : Window held have nine
  pub first : FirstCode table nine r
  pub there : r.width ≤ have

-- codes of the lowest `have` bits of `held` were passed; where more than a few bits are left, no code begins there, whatever follows
pub record Skims (table : List Entry) (held have : ℕ) (r : Skimmed) : Type 0 where
  pub brief : r.count + r.left ≤ have
  pub stuck : 24 < r.left → (more : List ℕ) → Halts (single table 7) 0 (low r.left held ++ more)
  pub passed : CountedSoFar (single table 7) (low have held) (low r.left held) r.count r.codes
