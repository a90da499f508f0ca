-- `numeric_writer::coded_after` meets its contract. Assumes nothing.
use mathlib.Core.Path.{ap₂}
use mathlib.Core.Bool.{Bool, not, ◌&&◌}
use Rattle.numeric.specs.Writer.{coded_behind}
use Rattle.numeric_writer.proofs.coded_after.Goals as goal

pub returns : goal.returns
unfolding coded_behind
returns c = ap₂ (λ (a b : Bool). a && not b) c.in_tables.ensures c.clashing.ensures
