-- `sections::move_section` meets its contract.
-- Assumes nothing.
use mathlib.Core.List.{◌++◌}
use mathlib.Core.Path.{ap, ◌∙◌}
use Prim.Native.Nat.{ℕ, ◌+◌, ◌*◌}
use lib.ListN.{take, drop}
use Rattle.sections.proofs.move_section.Goals as goal

pub returns-then-k-gt0 : goal.returns-then-k-gt0
returns-then-k-gt0 c =
    let m = c in
    let a = m in
    let s = a.args.body.now in
    m.move_up.ensures
    ∙ ap (λ (z : ℕ). take (a.args.k * 4002) s ++ (take z (drop (a.args.k * 4000) s) ++ drop (a.args.k * 4002 + z) s)) m.size.ensures
