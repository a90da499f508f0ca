-- `pseudo_binary_reader::read_front` meets its contract. The loop's invariant: the indicators and values that were passed leave what follows bit `at`, and
-- their text is laid. Assumes nothing.
use Prim.Native.Nat.{◌-◌, ◌*◌, ◌≤◌}
use lib.ListN.{length, drop}
use Rattle.bits.specs.Row.{bits}
use Rattle.codes.specs.Steps.Passed.{LaidSoFar}
use Rattle.pseudo_binary.specs.Table.{scheme}
use Rattle.pseudo_binary_reader.proofs.read_front.Given as goal

abbrev pub invariant-loop-at : goal.invariant-loop-at
invariant-loop-at l = (l.at ≤ length l.s * 8) × (l.n ≤ length l.initial.out) × LaidSoFar scheme (bits l.s) (drop l.at (bits l.s)) l.initial.out l.out 0 l.n

abbrev pub decreases-loop-at : goal.decreases-loop-at
decreases-loop-at l = length l.s * 8 - l.at
