-- `full_ascii_writer::is_coded` meets its contract: it is the definition's test, in its order. Assumes nothing.
use mathlib.Core.Path.{refl}
use Rattle.full_ascii.specs.Writer.{coded}
use Rattle.full_ascii_writer.proofs.is_coded.Goals as goal

pub returns : goal.returns
unfolding coded
returns c = refl
