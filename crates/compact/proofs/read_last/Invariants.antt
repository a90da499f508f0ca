-- `compact::read_last` meets its contract. The loop's invariant: the codes that were passed leave the lowest `left` bits, and their text is laid.
-- Assumes nothing.
use Rattle.std.proofs.Common.{◌≤◌, length}
use Rattle.codes.specs.Chain.{single}
use Rattle.codes.specs.Pack.{low}
use Rattle.codes.specs.Steps.Passed.{LaidSoFar}
use Rattle.compact.proofs.read_last.Given as goal

abbrev pub invariant-loop-code : goal.invariant-loop-code
invariant-loop-code g l = record {
  left : l.left ≤ l.have;
  room : l.at ≤ length l.initial.out;
  laid : LaidSoFar (single g.T.Table.table 7) (low l.have l.held) (low l.left l.held) l.initial.out l.out l.n l.at;
}

abbrev pub decreases-loop-code : goal.decreases-loop-code
decreases-loop-code g l = l.left
