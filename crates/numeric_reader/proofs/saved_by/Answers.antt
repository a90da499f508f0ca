-- `numeric_reader::saved_by` meets its contract.
-- Assumes nothing.
use mathlib.Core.Bool.{Bool, true, false}
use mathlib.Core.Path.{◌≡◌, refl, ap, ◌∙◌}
use Rattle.std.specs.Int.{from_bool}
use Rattle.numeric_reader.specs.Steps.Signs.{one}
use Rattle.numeric_reader.proofs.saved_by.Goals as goal

same : (t : Bool) → from_bool t ≡ one t
unfolding one
same true = refl
same false = refl

pub returns : goal.returns
returns c = c.from.ensures ∙ same c.joins.result ∙ ap one c.joins.ensures
