-- `apart::first_apart` meets its contract.
-- Assumes nothing.
use native.Mathlib.Omega.{arith}
use Rattle.apart.proofs.Parted.{alike-apart}
use Rattle.apart.proofs.first_apart.Goals as goal

pub returns-then-a-i : goal.returns-then-a-i
returns-then-a-i c = alike-apart c.loop-i.invariant (omega arith) (omega arith) _ _ c.highest_apart.ensures (omega arith)
