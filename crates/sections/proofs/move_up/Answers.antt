-- `sections::move_up` meets its contract.
-- Assumes nothing.
use Prim.Native.Nat.{◌%◌}
use native.Mathlib.Omega.{arith}
use Rattle.sections.proofs.Moving.{rest-moved}
use Rattle.sections.proofs.move_up.Goals as goal

pub returns : goal.returns
returns c =
    let o = c in
    let e = o in
    let a = e in
    rest-moved a.args.body.now a.args.from a.args.to a.args.count a.requires.0 a.requires.1 (a.args.count % 8) (omega arith) _ _
    e.move_by_eight.ensures o.move_by_one.ensures
