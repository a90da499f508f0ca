-- What reading rests on holds of Table 6: no code begins another, and none is a fill.
-- Assumes nothing.
use mathlib.Core.List.Memᴰ
use mathlib.Core.List.{[], ◌∷◌}
use mathlib.Core.Path.{refl}
use Prim.Native.Nat.{ℕ}
use lib.Dec.{T}
use Rattle.bits.specs.Numbers.{numbers}
use Rattle.bits.specs.Word.{bit}
use Rattle.codes.specs.Chain.{In}
use Rattle.codes.specs.Consecutive.{code_for, consecutive}
use Rattle.codes.specs.Pack.{low}
use Rattle.codes.proofs.Beginning.{begun}
use Rattle.codes.proofs.BitsInBytes.{binary}
use Rattle.codes.proofs.EveryElement.{every}
use Rattle.codes.proofs.Fill.{fills}
use Rattle.codes.proofs.NonemptyText.{Speaks, heard, said, speaks}
use Rattle.codes.proofs.ReadingAgrees.{Agrees, agrees}
use Rattle.codes.proofs.SchemeLaws.{Laws, parted, apart, unfilled, tested}
use Rattle.codes.proofs.SingleTable.{mute}
use Rattle.codes.proofs.SizeBounds.{brief, sized}
use Rattle.numeric.specs.Table.{characters}
use Rattle.shef.specs.Table.{table, scheme}

pub laws : Laws scheme
unfolding table consecutive code_for characters numbers low bit apart parted unfilled every begun fills
laws = tested scheme (λ m. tt) tt

-- what reading gives, and what a maker may build, agree
pub reading-agrees : Agrees scheme
reading-agrees = agrees laws

pub sounds : Speaks scheme
unfolding table consecutive code_for characters numbers every heard said
sounds = speaks scheme tt (λ m. tt)

pub mutes : T (every mute table)
unfolding table consecutive code_for characters numbers every mute
mutes = tt

pub all-bits : (m : ℕ) → T (every binary (scheme.table m))
unfolding table consecutive code_for characters numbers low bit every binary
all-bits m = tt

-- no entry says more characters than it has bits
pub briefs : (m : ℕ) → T (every (brief 1) (scheme.table m))
unfolding table consecutive code_for characters numbers low bit every brief
briefs m = tt

-- each code has five bits or more, and says two characters or fewer
pub all-sized : (m : ℕ) → T (every (sized 5 2) (scheme.table m))
unfolding table consecutive code_for characters numbers low bit every sized
all-sized m = tt

-- one of the shortest: a zero
pub shortest-in : In (code_for 5 0 (48 ∷ [])) table
unfolding table consecutive characters numbers
shortest-in = Memᴰ.head refl
