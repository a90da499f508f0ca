-- `lines::put_refused` meets its contract.
-- Assumes nothing.
use native.Mathlib.Omega.{arith}
use Rattle.lines.specs.Line.{refused}
use Rattle.lines.proofs.Told.{front_same, line-within, refused-is}
use mathlib.Core.List.{[], ◌∷◌}
use Rattle.lines.proofs.put_refused.Goals as goal

pub put_line-requires : goal.put_line-requires
put_line-requires c =
    let s = c in
    omega (arith, s.requires, line-within refused (s.args.number ∷ []))

pub returns : goal.returns
returns c =
    let s = c in
    front_same c.put_line.ensures (refused-is s.args.number)
