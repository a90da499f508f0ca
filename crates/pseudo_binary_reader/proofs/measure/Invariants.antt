-- `pseudo_binary_reader::measure` meets its contract. The loop's invariant: the indicators and values that were passed leave what follows bit `at`.
-- Assumes nothing.
use Prim.Native.Nat.{◌-◌, ◌*◌, ◌≤◌}
use lib.ListN.{length, drop}
use Rattle.bits.specs.Row.{bits}
use Rattle.codes.specs.Steps.Passed.{CountedSoFar}
use Rattle.pseudo_binary.specs.Table.{scheme}
use Rattle.pseudo_binary_reader.proofs.measure.Given as goal

abbrev pub invariant-loop-b : goal.invariant-loop-b
invariant-loop-b l = (l.at ≤ length l.s * 8) × (l.n ≤ 3 * l.at) × (l.codes ≤ l.at) × CountedSoFar scheme (bits l.s) (drop l.at (bits l.s)) l.n l.codes

abbrev pub decreases-loop-b : goal.decreases-loop-b
decreases-loop-b l = length l.s * 8 - l.at
