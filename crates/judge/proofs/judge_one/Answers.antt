-- `judge::judge_one` meets its contract.
-- Assumes nothing.
use native.Mathlib.Omega.{arith}
use Rattle.section_data.proofs.OnePiece.{part-is}
use Rattle.judge.proofs.Comparing.{may-be-judged, judged-joined}
use Rattle.judge.proofs.judge_one.Goals as goal

pub judge_data-requires : goal.judge_data-requires
judge_data-requires c =
    may-be-judged c.requires _ (part-is c.args.n c.args.came.now c.requires.few) _ (omega arith) (omega arith)

pub returns : goal.returns
returns c =
    judged-joined c.requires _ (part-is c.args.n c.args.came.now c.requires.few) c.judge_data.result c.judge_data.ensures
