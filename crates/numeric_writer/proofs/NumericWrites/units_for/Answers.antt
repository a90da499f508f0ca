-- `numeric_writer::NumericWrites::units_for` meets its contract. Assumes nothing.
use Rattle.codes.specs.Coded.{last_of}
use Rattle.numeric_writer.specs.Steps.Writing.{coded-stands}
use Rattle.numeric_writer.proofs.NumericWrites.units_for.Goals as goal

pub codes_for-requires : goal.codes_for-requires
codes_for-requires c = coded-stands (last_of c.requires.0) c.args.c c.requires.1
