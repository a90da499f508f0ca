-- `lines::put_end` meets its contract.
-- Assumes nothing.
use mathlib.Core.Path.{refl}
use native.Mathlib.Omega.{arith}
use Rattle.lines.proofs.Putting.{puts-as}
use Rattle.lines.proofs.put_end.Goals as goal

pub returns : goal.returns
returns c = puts-as _ refl (omega arith) c.requires
