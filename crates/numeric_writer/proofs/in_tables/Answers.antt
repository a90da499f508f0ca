-- `numeric_writer::in_tables` meets its contract. Assumes nothing.
use native.Mathlib.Omega.{arith}
use Rattle.numeric_writer.proofs.Telling.{table-told}
use Rattle.numeric_writer.proofs.in_tables.Goals as goal

pub returns : goal.returns
returns c = table-told c.args.c (omega arith) c.of_signs.ensures
