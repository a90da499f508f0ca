-- `shef_reader::ten_fives` meets its contract. Assumes nothing.
use Rattle.shef_reader.proofs.Fives.{fives-tested}
use Rattle.shef_reader.proofs.ten_fives.Goals as goal

pub returns : goal.returns
returns c e = fives-tested c.args.top e
