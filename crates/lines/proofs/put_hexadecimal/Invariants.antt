-- `lines::put_hexadecimal` meets its contract. The invariant: what the lowest digits still put makes the whole.
-- Assumes nothing.
use Rattle.lines.proofs.Putting.{DigitsLeft}
use Rattle.lines.proofs.put_hexadecimal.Given as goal

abbrev pub invariant-loop-place : goal.invariant-loop-place
invariant-loop-place l = DigitsLeft l.n l.initial.out l.at l.out l.end l.place
