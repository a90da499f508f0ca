-- `compact::measure_last` meets its contract. Assumes nothing.
use Rattle.std.proofs.Common.{refl, subst, arith}
use Rattle.bits.specs.Says.{Says}
use Rattle.codes.specs.Chain.{Fill}
use Rattle.codes.specs.Pack.{low}
use Rattle.codes.proofs.LowBits.{length-low}
use Rattle.codes.proofs.ReadSoFar.{counting-none, counting-bits, counting-end, counting-stuck}
use Rattle.codes.proofs.TakenCodes.{counted-code}
use Rattle.compact.proofs.measure_last.Goals as goal

pub loop-code-init : goal.loop-code-init
loop-code-init g c = record { left = omega arith; counted = omega arith; passed = counting-none _ _ }

pub returns-in_default : goal.returns-in_default
returns-in_default g c =
    counting-stuck c.loop-code.invariant.passed _ _
    (omega (arith, c.loop-code.invariant.left, length-low c.args.have c.args.held, length-low c.loop-code.left c.args.held)) (omega arith)
    c.in_default.ensures.none c.loop-code-test.ensures

pub overflow_add-codes : goal.overflow_add-codes
overflow_add-codes g c =
    omega (arith, counting-bits c.loop-code.invariant.passed g.T.Table.laws.laws, length-low c.args.have c.args.held)

pub loop-code-preserved : goal.loop-code-preserved
loop-code-preserved g c =
    let i = c.loop-code.invariant in
    let k = c.in-Some.ensures.code in
    record {
      left = omega (arith, i.left);
      counted = omega (arith, i.counted, k.first.short, k.first.few, k.there);
      passed = counted-code g.T.Table.laws.mutes (low c.args.have c.args.held) c.args.held c.loop-code.left k.nine c.loop-code.n c.loop-code.codes
          c.in-Some.code i.passed k.window k.first k.there refl refl;
    }

pub returns : goal.returns
returns g c =
    counting-end c.loop-code.invariant.passed _ _ (omega arith) (omega arith)
    (subst (λ b. Says b (Fill 7 (low c.loop-code.left c.args.held))) c.loop-code-test.false c.at_end.ensures)
