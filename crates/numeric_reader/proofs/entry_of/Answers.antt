-- `numeric_reader::entry_of` meets its contract.
-- Assumes nothing.
use mathlib.Core.List.{List}
use mathlib.Core.Path.{ap}
use Prim.Native.Nat.{ℕ}
use lib.ListN.{get_or}
use Rattle.numeric_reader.proofs.Table.{entries-right}
use Rattle.numeric_reader.proofs.entry_of.Goals as goal

pub returns : goal.returns
returns c = ap (λ (t : List ℕ). get_or t c.args.byte 0) entries-right
