-- `compact::skim_each` meets its contract. The loop's invariant: the codes that were passed leave the lowest `left` bits.
-- Assumes nothing.
use Rattle.std.proofs.Common.{◌+◌, ◌≤◌}
use Rattle.codes.specs.Chain.{single}
use Rattle.codes.specs.Pack.{low}
use Rattle.codes.specs.Steps.Passed.{CountedSoFar}
use Rattle.compact.proofs.skim_each.Given as goal

abbrev pub invariant-loop-left : goal.invariant-loop-left
invariant-loop-left g l = record {
  brief : l.count + l.left ≤ l.have;
  passed : CountedSoFar (single g.T.Table.table 7) (low l.have l.held) (low l.left l.held) l.count l.codes;
}

abbrev pub decreases-loop-left : goal.decreases-loop-left
decreases-loop-left g l = l.left
