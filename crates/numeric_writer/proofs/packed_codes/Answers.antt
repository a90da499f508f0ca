-- `numeric_writer::packed_codes` meets its contract. Assumes nothing.
use native.Mathlib.Omega.{arith}
use Rattle.numeric_writer.proofs.Sending.{base_goes, others-go}
use Rattle.numeric_writer.proofs.packed_codes.Goals as goal

pub returns-then-c : goal.returns-then-c
returns-then-c c =
    base_goes c.args.c (omega arith) c.requires c.if-c.true c.pick.ensures

pub returns : goal.returns
returns c =
    others-go c.args.c (omega arith) c.requires c.if-c.false c.pick-hash.ensures c.pick-colon.ensures c.pick-2.ensures
