-- `numeric_reader::count_block` meets its contract. The loop's invariant: the bytes up to the place are passed, if nothing forbade it.
-- Assumes nothing.
use mathlib.Core.Bool.{true}
use mathlib.Core.Path.{◌≡◌}
use Prim.Native.Nat.{◌-◌, ◌*◌, ◌≤◌}
use Rattle.numeric_reader.specs.Steps.Reached.{Counts}
use Rattle.numeric_reader.proofs.count_block.Given as goal

abbrev pub invariant-loop-i : goal.invariant-loop-i
invariant-loop-i l = record {
  few : l.saved ≤ (l.i - l.from) * 2;
  passed : l.apart ≡ true → Counts l.s l.from l.i l.saved;
}
