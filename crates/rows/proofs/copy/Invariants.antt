use Rattle.std.proofs.Common.{length, ◌++◌, ◌≡◌, take, drop}
use Rattle.rows.proofs.copy.Given as goal

abbrev pub invariant-loop-i : goal.invariant-loop-i
invariant-loop-i l = (length l.out ≡ length l.initial.out) × (l.out ≡ take l.i l.row ++ drop l.i l.initial.out)
