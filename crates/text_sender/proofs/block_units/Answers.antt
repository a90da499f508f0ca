-- `text_sender::block_units` meets its contract. Assumes nothing.
use native.Mathlib.Omega.{arith}
use Rattle.codes.proofs.EachAfter.{sum_more}
use Rattle.text_sender.proofs.block_units.Goals as goal

pub loop-i-preserved : goal.loop-i-preserved
loop-i-preserved g c = (
  omega (arith, c.units_for-n.ensures.1),
  sum_more g.F.Writes.units_for c.args.text.now c.args.from c.loop-i.i c.loop-i.n c.units_for-n.result (omega arith) (omega arith) c.loop-i.invariant.1
      c.units_for-n.ensures.0,
)
