-- `numeric_reader::is_pair` meets its contract. Assumes nothing.
use mathlib.Core.Bool.{◌||◌}
use mathlib.Core.Path.{ap, ◌∙◌}
use native.Mathlib.Omega.{arith}
use lib.Dec.{eqb}
use Rattle.numeric_reader.proofs.Counting.{pair-told}
use Rattle.numeric_reader.proofs.is_pair.Goals as goal

pub returns : goal.returns
returns c =
    let b = c.args.b in
    ap (λ t. t || eqb b 187) c.joins.ensures ∙ pair-told b (omega arith)
