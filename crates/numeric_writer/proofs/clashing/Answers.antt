-- `numeric_writer::clashing` meets its contract. Assumes nothing.
use native.Mathlib.Omega.{arith}
use Rattle.numeric_writer.proofs.Telling.{clash-told}
use Rattle.numeric_writer.proofs.clashing.Goals as goal

pub returns : goal.returns
returns c = clash-told c.args.before c.args.c (omega arith) c.of_signs.ensures
