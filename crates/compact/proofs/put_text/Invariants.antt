-- `compact::put_text` meets its contract. The loop's invariant: the codes that were passed leave `rest` without its first `skip` bits, and their text is
-- laid. Assumes nothing.
use Rattle.std.proofs.Common.{◌-◌, ◌*◌, length}
use Rattle.codes.specs.Chain.{single}
use Rattle.codes.specs.Steps.Words.{LaidWords}
use Rattle.compact.proofs.put_text.Given as goal

abbrev pub invariant-loop-word : goal.invariant-loop-word
invariant-loop-word g l = LaidWords (single g.T.Table.table 7) l.sent l.initial.out l.out l.rest l.skip l.n

abbrev pub decreases-loop-word : goal.decreases-loop-word
decreases-loop-word g l = length l.rest * 8 - l.skip
