-- `sections::divide` meets its contract.
-- Assumes nothing.
use Prim.Native.Nat.{◌-◌}
use native.Mathlib.Omega.{arith}
use Rattle.sections.proofs.Dividing.{none-divided, all-divided, next-divided}
use Rattle.sections.proofs.divide.Goals as goal

pub loop-k-init : goal.loop-k-init
loop-k-init c = none-divided c.args.n c.args.body.now c.requires.1 c.count-k.result (omega arith)

pub loop-k-preserved : goal.loop-k-preserved
loop-k-preserved c =
    next-divided c.args.n c.args.body.now c.requires.1 (c.loop-k.k - 1) c.loop-k.k (omega arith) c.loop-k.body _ _ c.size.result
    c.size.ensures c.loop-k.invariant c.move_section.ensures c.put_sum.ensures

pub returns : goal.returns
returns c = all-divided c.args.n c.args.body.now c.requires.1 c.loop-k.k c.loop-k.body (omega arith) c.loop-k.invariant
