-- `full_ascii_writer::next_code` meets its contract. Assumes nothing.
use native.Mathlib.Omega.{arith}
use Rattle.bits.proofs.Said.{said-yes, said-no}
use Rattle.full_ascii_writer.proofs.Sending.{first-pair, first-own}
use Rattle.full_ascii_writer.proofs.next_code.Goals as goal

pub returns-then-pair_at : goal.returns-then-pair_at
returns-then-pair_at c =
    first-pair c.args.text.now c.args.i (said-yes c.pair_at.result c.pair_at.ensures c.if-pair_at.true) (omega arith) (omega arith)
    (omega arith)

pub returns : goal.returns
returns c =
    first-own c.args.text.now c.args.i c.own_code.result c.requires.1 c.own_code.ensures
    (said-no c.pair_at.result c.pair_at.ensures c.if-pair_at.false)
