-- `pseudo_binary_writer::coded_length` meets its contract. The loop's invariant: the bits so far and those of the rest are those of the whole.
-- Assumes nothing.
use mathlib.Core.Path.{◌≡◌}
use Prim.Native.Nat.{◌+◌, ◌-◌, ◌≤◌}
use lib.ListN.{length, drop}
use Rattle.codes.specs.Chain.{codes}
use Rattle.pseudo_binary.specs.Writer.{ours}
use Rattle.pseudo_binary_writer.proofs.coded_length.Given as goal

abbrev pub invariant-loop-i : goal.invariant-loop-i
invariant-loop-i l = (l.i ≤ length l.text) × (l.n ≤ l.limit) × (l.n + length (codes (ours (drop l.i l.text))) ≡ length (codes (ours l.text)))

abbrev pub decreases-loop-i : goal.decreases-loop-i
decreases-loop-i l = length l.text - l.i
