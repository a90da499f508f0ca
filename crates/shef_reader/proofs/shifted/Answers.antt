-- `shef_reader::shifted` meets its contract. Assumes nothing.
use Rattle.std.proofs.Common.{◌/◌, arith}
use Rattle.shef_reader.proofs.Six.{shift-five}
use Rattle.shef_reader.proofs.shifted.Goals as goal

pub returns : goal.returns
returns c = shift-five c.args.top (c.args.six / 32) (omega arith)
