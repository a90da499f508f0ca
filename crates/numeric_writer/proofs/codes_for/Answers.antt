-- `numeric_writer::codes_for` meets its contract. Assumes nothing.
use native.Mathlib.Omega.{arith}
use Rattle.numeric_writer.proofs.Counting.{counts-none, counts_some}
use Rattle.numeric_writer.proofs.codes_for.Goals as goal

pub returns-then-before-c : goal.returns-then-before-c
returns-then-before-c c =
    (omega (arith, counts-none c.args.before c.args.c c.if-before-c.true), omega arith)

pub returns-then-of_signs-c : goal.returns-then-of_signs-c
returns-then-of_signs-c c = (
  omega (arith, counts_some c.args.before c.args.c (omega arith) c.requires c.if-before-c.false c.of_signs.ensures c.if-of_signs-c.true),
  omega arith,
)

pub returns : goal.returns
returns c = (
  omega (arith, counts_some c.args.before c.args.c (omega arith) c.requires c.if-before-c.false c.of_signs.ensures c.if-of_signs-c.false),
  omega arith,
)
