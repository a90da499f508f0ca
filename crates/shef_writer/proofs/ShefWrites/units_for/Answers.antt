-- `shef_writer::ShefWrites::units_for` meets its contract. Assumes nothing.
use native.Mathlib.Omega.{arith}
use Rattle.shef_writer.proofs.Counting.{bits_none, bits-six, bits-five}
use Rattle.shef_writer.proofs.ShefWrites.units_for.Goals as goal

pub returns-then-before-c : goal.returns-then-before-c
returns-then-before-c c = (omega (arith, bits_none c.args.before c.args.c c.if-before-c.true), omega arith)

pub returns-then-c : goal.returns-then-c
returns-then-c c = (omega (arith, bits-six c.args.before c.args.c (omega arith) c.requires.1 c.if-before-c.false c.if-c.true), omega arith)

pub returns : goal.returns
returns c = (omega (arith, bits-five c.args.before c.args.c (omega arith) c.requires.1 c.if-before-c.false c.if-c.false), omega arith)
