-- `section_data::put_open` meets its contract.
-- Assumes nothing.
use Rattle.std.proofs.Common.{arith}
use Rattle.section_data.proofs.OnePiece.{part-copied}
use Rattle.section_data.proofs.put_open.Goals as goal

pub returns : goal.returns
returns c = part-copied c.args.n c.args.came.now c.requires.1 (omega arith) _ _ _ (c.copy.ensures.value, c.copy.ensures.after)
