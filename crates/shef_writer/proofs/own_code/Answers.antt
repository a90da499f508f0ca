-- `shef_writer::own_code` meets its contract. Assumes nothing.
use mathlib.Core.Path.{ap, ◌∙◌}
use Prim.Native.Nat.{ℕ, ◌%◌}
use native.Mathlib.Omega.{arith}
use Rattle.shef_writer.proofs.Sending.{sends_none, sends-own}
use Rattle.shef_writer.proofs.Telling.{entry-number}
use Rattle.shef_writer.proofs.own_code.Goals as goal

pub returns-then-before-c : goal.returns-then-before-c
returns-then-before-c c = sends_none c.args.before c.args.c c.if-before-c.true

pub returns : goal.returns
returns c =
    sends-own c.args.before c.args.c c.entry.result c.code_of.result (omega arith) c.requires c.if-before-c.false
    (ap (λ (k : ℕ). k % 64) c.entry.ensures ∙ entry-number c.args.c (omega arith) c.requires) c.code_of.ensures
