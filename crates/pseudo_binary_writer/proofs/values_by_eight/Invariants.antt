-- `pseudo_binary_writer::values_by_eight` meets its contract. The loop's invariant: the characters that were passed are values.
-- Assumes nothing.
use Prim.Native.Nat.{◌+◌, ◌-◌, ◌≤◌}
use lib.ListN.{length, take, drop}
use Rattle.pseudo_binary.specs.Table.{values}
use Rattle.pseudo_binary.specs.Writer.{Alike}
use Rattle.pseudo_binary_writer.proofs.values_by_eight.Given as goal

abbrev pub invariant-loop-n : goal.invariant-loop-n
invariant-loop-n l = (l.n ≤ l.most) × (l.i + l.n ≤ length l.text) × Alike values (take l.n (drop l.i l.text))

abbrev pub decreases-loop-n : goal.decreases-loop-n
decreases-loop-n l = l.most - l.n
