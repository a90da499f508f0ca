-- `text_sender::code_units` meets its contract. Assumes nothing.
use mathlib.Core.Path.{sym}
use Prim.Native.Nat.{◌-◌}
use native.Mathlib.Omega.{arith}
use lib.ListN.{get_or}
use Rattle.codes.proofs.EachAfter.{sum-next, sum-end}
use Rattle.text_sender.proofs.code_units.Goals as goal

pub returns-then-text-eq0 : goal.returns-then-text-eq0
returns-then-text-eq0 g c = sym (sum-end g.F.Writes.units_for c.args.text.now 0 0 (omega arith))

pub loop-i-init : goal.loop-i-init
loop-i-init g c = (
  omega arith,
  omega arith,
  omega (arith, c.units_for-n.ensures.1),
  omega (arith, sum-next g.F.Writes.units_for c.args.text.now 0 0 (omega arith), c.units_for-n.ensures.0),
)

pub returns : goal.returns
returns g c =
    let t = c.args.text.now in
    omega (arith, sum-end g.F.Writes.units_for t (get_or t (c.loop-i.i - 1) 0) c.loop-i.i (omega arith), c.loop-i.invariant.3)
