-- What reading rests on holds of Table 4: no code begins another, and none is a fill, since no bit is unused.
-- Assumes nothing.
use Prim.Native.Nat.{ℕ}
use lib.Dec.{T}
use Rattle.bits.specs.Numbers.{numbers}
use Rattle.bits.specs.Word.{bit}
use Rattle.codes.specs.Consecutive.{code_for, consecutive}
use Rattle.codes.specs.Pack.{low}
use Rattle.codes.proofs.Beginning.{begun}
use Rattle.codes.proofs.BitsInBytes.{binary}
use Rattle.codes.proofs.EveryElement.{every}
use Rattle.codes.proofs.Fill.{fills}
use Rattle.codes.proofs.NonemptyText.{Speaks, heard, said, speaks}
use Rattle.codes.proofs.ReadingAgrees.{Agrees, agrees}
use Rattle.codes.proofs.SchemeLaws.{Laws, parted, apart, unfilled, tested}
use Rattle.codes.proofs.SingleTable.{mute}
use Rattle.codes.proofs.SizeBounds.{sized}
use Rattle.numeric.specs.Table.{characters, table, scheme}

pub laws : Laws scheme
unfolding table consecutive code_for characters numbers low bit apart parted unfilled every begun fills
laws = tested scheme (λ m. tt) tt

-- what reading gives, and what a maker may build, agree
pub reading-agrees : Agrees scheme
reading-agrees = agrees laws

pub sounds : Speaks scheme
unfolding table consecutive code_for characters numbers every heard said
sounds = speaks scheme tt (λ m. tt)

pub mutes : T (every mute table)
unfolding table consecutive code_for characters numbers every mute
mutes = tt

pub all-bits : (m : ℕ) → T (every binary (scheme.table m))
unfolding table consecutive code_for characters numbers low bit every binary
all-bits m = tt

-- each code has four bits and says one character
pub all-sized : (m : ℕ) → T (every (sized 4 1) (scheme.table m))
unfolding table consecutive code_for characters numbers low bit every sized
all-sized m = tt
