-- `shef_reader::ShefTable::first_code` meets its contract. Assumes nothing.
use Rattle.std.proofs.Common.{arith}
use Rattle.shef_reader.proofs.Six.{none-begins}
use Rattle.shef_reader.proofs.ShefTable.first_code.Goals as goal

pub returns-then-six-eq-SIX_ONES-clause-none : goal.returns-then-six-eq-SIX_ONES-clause-none
returns-then-six-eq-SIX_ONES-clause-none c = none-begins c.args.nine (omega arith)
