-- `shef_writer::entry` meets its contract. Assumes nothing.
use native.Mathlib.Omega.{arith}
use Rattle.shef_writer.proofs.Telling.{picks-entry}
use Rattle.shef_writer.proofs.entry.Goals as goal

pub returns : goal.returns
returns c =
    picks-entry c.args.c (omega arith) c.requires c.pick-base.ensures c.pick-letter.ensures c.pick-hash.ensures c.pick-equals.ensures c.pick-colon.ensures
    c.pick-line_end.ensures c.pick.ensures
