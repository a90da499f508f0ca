-- `full_ascii_reader::plain` meets its contract. Assumes nothing.
use Rattle.full_ascii_reader.proofs.Seven.{plain-tested}
use Rattle.full_ascii_reader.proofs.plain.Goals as goal

pub returns : goal.returns
returns c e = plain-tested c.args.held e
