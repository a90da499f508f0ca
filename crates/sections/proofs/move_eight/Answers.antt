-- `sections::move_eight` meets its contract.
-- Assumes nothing.
use mathlib.Core.List.{List, ◌++◌}
use mathlib.Core.Path.{ap, ◌∙◌}
use Prim.Native.Nat.{ℕ, ◌+◌}
use lib.ListN.{take, drop, get_or}
use Rattle.sections.proofs.Moving.{eight-from, eight-put}
use Rattle.sections.proofs.move_eight.Goals as goal

pub returns : goal.returns
returns c =
    let a = c in
    let s = a.args.body.now in
    let p = a.args.from in
    eight-put s a.args.to (get_or s p 0) (get_or s (p + 1) 0) (get_or s (p + 2) 0) (get_or s (p + 3) 0) (get_or s (p + 4) 0) (get_or s (p + 5) 0) (get_or s (p + 6) 0)
    (get_or s (p + 7) 0) a.requires.1
    ∙ ap (λ (l : List ℕ). take a.args.to s ++ (l ++ drop (a.args.to + 8) s)) (eight-from s p a.requires.0)
