-- `apart::first_apart` meets its contract. The invariant: the rows are the same in their first `i` bytes.
-- Assumes nothing.
use Rattle.apart.proofs.Parted.{Alike}
use Rattle.apart.proofs.first_apart.Given as goal

abbrev pub invariant-loop-i : goal.invariant-loop-i
invariant-loop-i l = Alike l.a l.b l.i
