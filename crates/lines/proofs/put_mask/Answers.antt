-- `lines::put_mask` meets its contract.
-- Assumes nothing.
use mathlib.Core.List.{◌∷◌}
use mathlib.Core.Path.{refl}
use native.Mathlib.Omega.{arith}
use Rattle.lines.specs.Line.{hexadecimal}
use Rattle.lines.specs.Steps.Put.{PutsRow}
use Rattle.lines.proofs.Putting.{puts-more, puts-as}
use Rattle.lines.proofs.put_mask.Goals.{After-put_hexadecimal}
use Rattle.lines.proofs.put_mask.Goals as goal

-- the space, and the digits behind it
row_put : (c : After-put_hexadecimal)
    → (let s = c in
    let put = c.put_hexadecimal in
    PutsRow (32 ∷ hexadecimal s.args.mask) s.args.out.now put.new.out s.args.at put.result)
row_put c =
    let s = c in
    puts-more (puts-as _ refl refl (omega (arith, s.requires))) c.put_hexadecimal.ensures (omega (arith, s.requires))

pub returns : goal.returns
returns c = row_put (goal.at.returns c).After-put_hexadecimal
