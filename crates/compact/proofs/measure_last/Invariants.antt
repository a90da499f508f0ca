-- `compact::measure_last` meets its contract. The loop's invariant: the codes that were passed leave the lowest `left` bits.
-- Assumes nothing.
use Rattle.std.proofs.Common.{◌+◌, ◌≤◌}
use Rattle.codes.specs.Chain.{single}
use Rattle.codes.specs.Pack.{low}
use Rattle.codes.specs.Steps.Passed.{CountedSoFar}
use Rattle.compact.proofs.measure_last.Given as goal

abbrev pub invariant-loop-code : goal.invariant-loop-code
invariant-loop-code g l = record {
  left : l.left ≤ l.have;
  counted : l.n + l.left ≤ l.have;
  passed : CountedSoFar (single g.T.Table.table 7) (low l.have l.held) (low l.left l.held) l.n l.codes;
}

abbrev pub decreases-loop-code : goal.decreases-loop-code
decreases-loop-code g l = l.left
