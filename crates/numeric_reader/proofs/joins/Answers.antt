-- `numeric_reader::joins` meets its contract. Assumes nothing.
use native.Mathlib.Omega.{arith}
use Rattle.numeric_reader.proofs.Counting.{joins-told}
use Rattle.numeric_reader.proofs.joins.Goals as goal

pub returns : goal.returns
returns c = joins-told c.args.b (omega arith)
