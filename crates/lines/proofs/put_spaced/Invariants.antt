-- `lines::put_spaced` meets its contract. The invariant: what the numbers that are left still put makes the whole.
-- Assumes nothing.
use Rattle.lines.proofs.Putting.{Left}
use Rattle.lines.proofs.put_spaced.Given as goal

abbrev pub invariant-loop-number : goal.invariant-loop-number
invariant-loop-number l = Left l.numbers l.initial.out l.at l.out l.end l.number-index
