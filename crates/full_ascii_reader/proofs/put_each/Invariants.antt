-- `full_ascii_reader::put_each` meets its contract. The loop's invariant: the codes that were passed leave the lowest `left` bits, and their text is laid.
-- Assumes nothing.
use Prim.Native.Nat.{◌+◌, ◌≤◌}
use Rattle.codes.specs.Pack.{low}
use Rattle.codes.specs.Steps.Passed.{LaidSoFar}
use Rattle.full_ascii.specs.Table.{scheme}
use Rattle.full_ascii_reader.proofs.put_each.Given as goal

abbrev pub invariant-loop-left : goal.invariant-loop-left
invariant-loop-left l = record {
  brief : l.count + l.left ≤ l.have;
  laid : LaidSoFar scheme (low l.have l.held) (low l.left l.held) l.initial.out l.out l.n (l.n + l.count);
}

abbrev pub decreases-loop-left : goal.decreases-loop-left
decreases-loop-left l = l.left
