-- `lines::put_spaced` meets its contract.
-- Assumes nothing.
use mathlib.Core.Path.{refl}
use native.Mathlib.Omega.{arith}
use lib.ListN.{length-set}
use Rattle.lines.proofs.Putting.{left-none, next-held, left-next}
use Rattle.lines.proofs.put_spaced.Goals as goal

pub bounds-out-end : goal.bounds-out-end
bounds-out-end c = omega (arith, next-held c.loop-number.invariant c.loop-number-test.true)

pub put_decimal-end-requires : goal.put_decimal-end-requires
put_decimal-end-requires c =
    simp length-set (omega (arith, next-held c.loop-number.invariant c.loop-number-test.true))

pub loop-number-preserved : goal.loop-number-preserved
loop-number-preserved c =
    left-next c.loop-number.invariant c.loop-number-test.true _ _ _
    c.put_decimal-end.ensures refl

pub returns : goal.returns
returns c = left-none c.loop-number.invariant c.loop-number-test.false
