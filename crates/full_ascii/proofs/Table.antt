-- The table of Compact Full ASCII: no code begins another, the fill is never a code, each code is bits and says something.
-- Assumes nothing.
use mathlib.Core.List.Memᴰ
use mathlib.Core.Path.{refl}
use Prim.Native.Nat.{ℕ}
use lib.Dec.{T}
use Rattle.bits.specs.Numbers.{numbers}
use Rattle.bits.specs.Word.{bit}
use Rattle.codes.specs.Chain.{In}
use Rattle.codes.specs.Pack.{low}
use Rattle.codes.proofs.EveryElement.{every}
use Rattle.codes.proofs.Beginning.{begun}
use Rattle.codes.proofs.Fill.{fills}
use Rattle.codes.proofs.SchemeLaws.{Laws, parted, apart, unfilled, tested}
use Rattle.codes.proofs.NonemptyText.{Speaks, heard, said, speaks}
use Rattle.codes.proofs.BitsInBytes.{binary}
use Rattle.codes.proofs.SingleTable.{mute}
use Rattle.codes.proofs.SizeBounds.{brief, sized}
use Rattle.full_ascii.specs.Table.{six, seven, special, pair, table, scheme}

pub laws : Laws scheme
unfolding table six seven special pair numbers low bit apart parted unfilled every begun fills
laws = tested scheme (λ m. tt) tt

pub sounds : Speaks scheme
unfolding table six seven special pair numbers low bit every heard said
sounds = speaks scheme tt (λ m. tt)

pub mutes : T (every mute table)
unfolding table six seven special pair numbers every mute
mutes = tt

pub all-bits : (m : ℕ) → T (every binary (scheme.table m))
unfolding table six seven special pair numbers low bit every binary
all-bits m = tt

-- no entry says more characters than it has bits
pub briefs : (m : ℕ) → T (every (brief 1) (scheme.table m))
unfolding table six seven special pair numbers low bit every brief
briefs m = tt

-- each code has six bits or more, and says two characters or fewer
pub all-sized : (m : ℕ) → T (every (sized 6 2) (scheme.table m))
unfolding table six seven special pair numbers low bit every sized
all-sized m = tt

-- one of the shortest: a space
pub shortest-in : In (six 32) table
unfolding table numbers
shortest-in = Memᴰ.head refl
