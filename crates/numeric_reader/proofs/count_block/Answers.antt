-- `numeric_reader::count_block` meets its contract.
-- Assumes nothing.
use native.Mathlib.Omega.{arith}
use Rattle.numeric_reader.proofs.Counting.{both_true, counts-more}
use Rattle.numeric_reader.proofs.count_block.Goals as goal

pub loop-i-preserved : goal.loop-i-preserved
loop-i-preserved c =
    let few = c.count_byte-byte.ensures.0 in
    record {
      few = omega (arith, few, c.loop-i.invariant.few);
      passed = λ told.
          let t = both_true c.loop-i.apart c.count_byte-byte.result.apart told in
          counts-more c.args.s.now c.args.from c.loop-i.i c.loop-i.saved c.count_byte-byte.result.saved (omega arith) (omega arith)
          c.loop-i.invariant.few (c.loop-i.invariant.passed t.0) (c.count_byte-byte.ensures.1 t.1);
    }
