-- `numeric_writer::own_codes` meets its contract. Assumes nothing.
use native.Mathlib.Omega.{arith}
use Rattle.numeric_writer.proofs.Sending.{own-some}
use Rattle.numeric_writer.proofs.own_codes.Goals as goal

pub returns : goal.returns
returns c =
    own-some c.args.before c.args.c c.packed_codes-packed.result (omega arith) c.packed_codes-packed.ensures (omega arith) (omega arith)
