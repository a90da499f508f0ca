-- `compact::measure` meets its contract. The loop's invariant: the codes that were passed leave `rest` without its first `skip` bits.
-- Assumes nothing.
use Rattle.std.proofs.Common.{◌+◌, ◌-◌, ◌*◌, ◌<◌, ◌≤◌, length, drop}
use Rattle.bits.specs.Row.{bits}
use Rattle.codes.specs.Chain.{single}
use Rattle.codes.specs.Steps.Passed.{CountedSoFar}
use Rattle.compact.proofs.measure.Given as goal

abbrev pub invariant-loop-word : goal.invariant-loop-word
invariant-loop-word g l = record {
  short : l.skip < 8;
  within : l.skip ≤ length l.rest * 8;
  shorter : length l.rest ≤ length l.sent;
  brief : l.n + length l.rest * 8 ≤ length l.sent * 8 + l.skip;
  passed : CountedSoFar (single g.T.Table.table 7) (bits l.sent) (drop l.skip (bits l.rest)) l.n l.codes;
}

abbrev pub decreases-loop-word : goal.decreases-loop-word
decreases-loop-word g l = length l.rest * 8 - l.skip
