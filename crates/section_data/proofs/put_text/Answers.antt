-- `section_data::put_text` meets its contract.
-- Assumes nothing.
use Rattle.std.proofs.Common.{rules, arith}
use Rattle.section_data.proofs.OnePiece.{room, put, part-is, part-long, open-fits, open-put}
use Rattle.section_data.proofs.put_text.Goals as goal

pub put_open-requires : goal.put_open-requires
put_open-requires c =
    (c.requires.0, c.requires.1, open-fits c.args.format (search rules) c.args.n c.args.came.now c.requires.1 _ c.requires.2)

pub returns-then-eq : goal.returns-then-eq
returns-then-eq c =
    open-put c.args.format (search rules) c.args.n c.args.came.now c.requires.1 _ _ c.put_open.ensures.1 _ c.put_open.ensures.0

pub put_text-requires : goal.put_text-requires
put_text-requires c =
    let n = c.args.n in
    let s = c.args.came.now in (
      omega (arith, part-long n s c.requires.1 (omega arith)),
      room n s _ (part-is n s (omega arith)) c.args.format _ c.requires.2,
    )

pub returns : goal.returns
returns c =
    let n = c.args.n in
    let s = c.args.came.now in
    put n s _ (part-is n s (omega arith)) c.args.format _ _ _ c.put_text.ensures
