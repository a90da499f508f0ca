-- `pseudo_binary_writer::values_from` meets its contract. The loop's invariant: the characters that were passed and the run of the rest are the whole run.
-- Assumes nothing.
use mathlib.Core.Path.{◌≡◌}
use Prim.Native.Nat.{◌+◌, ◌-◌, ◌≤◌}
use lib.ListN.{drop}
use Rattle.pseudo_binary.specs.Table.{values}
use Rattle.pseudo_binary.specs.Writer.{run}
use Rattle.pseudo_binary_writer.proofs.values_from.Given as goal

abbrev pub invariant-loop-n : goal.invariant-loop-n
invariant-loop-n l = (l.n ≤ l.end) × (l.n + run values (l.most - l.n) (drop (l.i + l.n) l.text) ≡ run values l.most (drop l.i l.text))
