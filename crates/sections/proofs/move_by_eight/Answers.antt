-- `sections::move_by_eight` meets its contract.
-- Assumes nothing.
use mathlib.Core.Path.{◌≡◌, ap, ◌∙◌}
use Prim.Native.Nat.{◌-◌}
use native.Mathlib.Omega.{arith}
use lib.ListN.{length}
use Rattle.sections.proofs.Moving.{moved-next, moved_length}
use Rattle.sections.proofs.move_by_eight.Goals.{After-loop-left, In-loop-left}
use Rattle.sections.proofs.move_by_eight.Goals as goal

-- nothing gets longer
long : (l : In-loop-left) → length l.loop-left.body ≡ length l.args.body.now
long l =
    let a = l in
    ap length l.loop-left.invariant.2
    ∙ moved_length a.args.body.now a.args.from a.args.to a.args.count a.requires.0 a.requires.1 l.loop-left.left l.loop-left.invariant.0

long-2 : (l : After-loop-left) → length l.loop-left.body ≡ length l.args.body.now
long-2 l =
    let a = l in
    ap length l.loop-left.invariant.2
    ∙ moved_length a.args.body.now a.args.from a.args.to a.args.count a.requires.0 a.requires.1 l.loop-left.left l.loop-left.invariant.0

pub loop-left-preserved : goal.loop-left-preserved
loop-left-preserved c =
    let l = c in
    let a = l in (
      omega arith,
      omega arith,
      moved-next a.args.body.now a.args.from a.args.to a.args.count a.requires.0 a.requires.1 l.loop-left.left (l.loop-left.left - 8) 8 (omega arith)
          l.loop-left.invariant.0 l.loop-left.body _ l.loop-left.invariant.2 c.move_eight.ensures,
    )
