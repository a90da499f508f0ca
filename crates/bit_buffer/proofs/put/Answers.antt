-- `bit_buffer::put` meets its contract. Assumes nothing.
use native.Mathlib.Omega.{arith}
use lib.ListN.{length-set}
use Rattle.codes.proofs.TakenCodes.{put_one, put_two}
use Rattle.bit_buffer.proofs.put.Goals as goal

pub bounds-out-n-then-c-eq2 : goal.bounds-out-n-then-c-eq2
bounds-out-n-then-c-eq2 c = simp length-set (omega arith)

pub returns-then-c-eq2 : goal.returns-then-c-eq2
returns-then-c-eq2 c = put_two c.args.out.now c.args.n c.args.c (omega arith) (omega arith) (omega arith)

pub returns-else-c-eq2 : goal.returns-else-c-eq2
returns-else-c-eq2 c = put_one c.args.out.now c.args.n c.args.c (omega (arith, c.if-c-eq2.false)) (omega arith)
