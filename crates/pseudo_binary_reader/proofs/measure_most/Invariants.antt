-- `pseudo_binary_reader::measure_most` meets its contract. The loop's invariant: the indicators and values that were passed leave what follows bit `at`.
-- Assumes nothing.
use Prim.Native.Nat.{◌-◌, ◌*◌, ◌≤◌}
use lib.ListN.{length, drop}
use Rattle.bits.specs.Row.{bits}
use Rattle.codes.specs.Steps.Passed.{CountedSoFar}
use Rattle.pseudo_binary.specs.Table.{scheme}
use Rattle.pseudo_binary_reader.proofs.measure_most.Given as goal

abbrev pub invariant-loop-at : goal.invariant-loop-at
invariant-loop-at l = (l.at ≤ length l.s * 8) × (l.n ≤ 3 * l.at) × (l.codes ≤ l.at) × CountedSoFar scheme (bits l.s) (drop l.at (bits l.s)) l.n l.codes

abbrev pub decreases-loop-at : goal.decreases-loop-at
decreases-loop-at l = length l.s * 8 - l.at
