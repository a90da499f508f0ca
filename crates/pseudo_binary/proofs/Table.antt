-- The tables of Compact Pseudo Binary: no code begins another, the fill is never a code, each code is bits and says or announces something.
-- Assumes nothing.
use Prim.Native.Nat.{ℕ, zero, suc}
use lib.Dec.{T}
use Rattle.bits.specs.Numbers.{numbers}
use Rattle.bits.specs.Word.{bit}
use Rattle.codes.specs.Pack.{low}
use Rattle.codes.proofs.EveryElement.{every}
use Rattle.codes.proofs.Beginning.{begun}
use Rattle.codes.proofs.Fill.{fills}
use Rattle.codes.proofs.SchemeLaws.{Laws, parted, apart, unfilled, tested}
use Rattle.codes.proofs.NonemptyText.{Speaks, heard, said, speaks}
use Rattle.codes.proofs.BitsInBytes.{binary}
use Rattle.pseudo_binary.specs.Table.{indicator, most, indicators, six, tables, scheme}

all_apart : (m : ℕ) → T (apart (tables m))
unfolding indicator most indicators six tables numbers low bit apart parted every begun
all_apart zero = tt
all_apart (suc m) = tt

pub laws : Laws scheme
unfolding indicator most indicators six tables numbers low bit unfilled every fills
laws = tested scheme all_apart tt

pub sounds : Speaks scheme
unfolding indicator most indicators six tables numbers every heard said
sounds = speaks scheme tt (λ m. tt)

pub all-bits : (m : ℕ) → T (every binary (tables m))
unfolding indicator most indicators six tables numbers low bit every binary
all-bits zero = tt
all-bits (suc m) = tt
