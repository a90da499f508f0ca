-- `shef_writer::is_coded` meets its contract: a computed test over all characters. Assumes nothing.
use native.Mathlib.Omega.{arith}
use Rattle.shef_writer.proofs.Telling.{coded-told}
use Rattle.shef_writer.proofs.is_coded.Goals as goal

pub returns : goal.returns
returns c = coded-told c.args.c (omega arith)
