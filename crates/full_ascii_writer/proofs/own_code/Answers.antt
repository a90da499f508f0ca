-- `full_ascii_writer::own_code` meets its contract. Assumes nothing.
use native.Mathlib.Omega.{arith}
use Rattle.full_ascii_writer.proofs.Sending.{sends-tab, sends-return, sends-feed, sends_lower, sends-upper, no_other, coded-most}
use Rattle.full_ascii_writer.proofs.own_code.Goals.{in_default-via-then-c-lt32, in_default-via-else-c-lt32+else-c-lt64}
use Rattle.full_ascii_writer.proofs.own_code.Goals as goal

pub returns-in-9 : goal.returns-in-9
returns-in-9 c = sends-tab c.args.c c.in-9.is (omega arith) (omega arith)

pub returns-in-13 : goal.returns-in-13
returns-in-13 c = sends-return c.args.c c.in-13.is (omega arith) (omega arith)

pub returns-in-10 : goal.returns-in-10
returns-in-10 c = sends-feed c.args.c c.in-10.is (omega arith) (omega arith)

pub returns-in-32-to-63 : goal.returns-in-32-to-63
returns-in-32-to-63 c = sends_lower c.args.c (omega arith) (omega arith) (omega arith) (omega arith)

pub returns-in_default : goal.returns-in_default
returns-in_default c =
    elim c.in_default.branch [
      | in_default-via-then-c-lt32 w ↦ absurd (no_other c.args.c c.requires (omega arith) (omega arith) (omega arith) (omega arith))
      | in_default-via-else-c-lt32+else-c-lt64 w ↦ sends-upper c.args.c (omega arith) (omega (arith, coded-most c.args.c c.requires)) (omega arith) (omega arith)
    ]
