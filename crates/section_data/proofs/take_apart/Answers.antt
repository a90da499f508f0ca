-- `section_data::take_apart` meets its contract.
-- Assumes nothing.
use Rattle.std.proofs.Common.{rules, arith}
use Rattle.section_data.proofs.OnePiece.{apart, part-is, part-long, open-apart}
use Rattle.section_data.proofs.take_apart.Goals as goal

pub returns-then-eq : goal.returns-then-eq
returns-then-eq c =
    open-apart c.args.format (search rules) c.args.n c.args.came.now c.requires.1 (omega arith) _ _ (omega arith) (omega arith)

pub returns : goal.returns
returns c =
    let n = c.args.n in
    let s = c.args.came.now in
    apart n s _ (part-is n s (omega arith)) c.args.format c.take_apart.result (part-long n s c.requires.1 (omega arith)) c.take_apart.ensures
