-- `numeric_writer::end_codes` meets its contract. Assumes nothing.
use native.Mathlib.Omega.{arith}
use Rattle.numeric_writer.proofs.Sending.{own-none, own_pair}
use Rattle.numeric_writer.proofs.end_codes.Goals as goal

pub returns-then-before-c : goal.returns-then-before-c
returns-then-before-c c = own-none c.args.before c.args.c c.if-before-c.true (omega arith) (omega arith)

pub returns : goal.returns
returns c = own_pair c.args.before c.args.c c.requires c.if-before-c.false (omega arith) (omega arith)
