-- `lines::put_hexadecimal` meets its contract.
-- Assumes nothing.
use mathlib.Core.Path.{refl}
use Prim.Native.Nat.{◌-◌}
use native.Mathlib.Omega.{arith}
use Rattle.lines.proofs.Putting.{digits-all, digits-none, digit-held, digits-next}
use Rattle.lines.proofs.put_hexadecimal.Goals as goal

pub loop-place-init : goal.loop-place-init
loop-place-init c = digits-all c.args.n c.args.out.now c.args.at c.requires

pub bounds-out-end : goal.bounds-out-end
bounds-out-end c = digit-held c.loop-place.invariant (c.loop-place.place - 1) (omega arith)

pub loop-place-preserved : goal.loop-place-preserved
loop-place-preserved c =
    digits-next c.loop-place.invariant (c.loop-place.place - 1) (omega arith) _ _ _ (omega arith) c.hexadecimal_digit.ensures refl

pub returns : goal.returns
returns c = digits-none c.loop-place.invariant c.loop-place-test.false
