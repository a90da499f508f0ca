-- `apart::highest_apart` meets its contract.
-- Assumes nothing.
use native.Mathlib.Omega.{arith}
use Rattle.apart.proofs.Highest.{not-eight, highest-told}
use Rattle.apart.proofs.highest_apart.Goals as goal

pub overflow_sub-result : goal.overflow_sub-result
overflow_sub-result c = not-eight c.args.a c.args.b (omega arith) (omega arith) c.requires

pub returns : goal.returns
returns c = highest-told c.args.a c.args.b (omega arith) (omega arith) c.requires _ (omega arith)
