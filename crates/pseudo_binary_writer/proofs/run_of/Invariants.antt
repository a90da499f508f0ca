-- `pseudo_binary_writer::run_of` meets its contract. The loop's invariant: the characters that were passed and the run of the rest are the whole run.
-- Assumes nothing.
use mathlib.Core.Path.{◌≡◌}
use Prim.Native.Nat.{◌+◌, ◌-◌, ◌≤◌}
use lib.ListN.{drop}
use Rattle.pseudo_binary.specs.Table.{Kind}
use Rattle.pseudo_binary.specs.Writer.{run}
use Rattle.pseudo_binary_writer.specs.Steps.Sending.{Between}
use Rattle.pseudo_binary_writer.proofs.run_of.Given as goal

abbrev pub invariant-loop-n : goal.invariant-loop-n
invariant-loop-n l = (l.n ≤ l.end) × ((k : Kind) → Between k l.character l.character → l.n + run k (l.most - l.n) (drop (l.i + l.n) l.text) ≡ run k l.most (drop l.i l.text))
