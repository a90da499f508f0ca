-- `compact::skim_each` meets its contract. Assumes nothing.
use Rattle.std.proofs.Common.{refl, arith}
use Rattle.codes.specs.Pack.{low}
use Rattle.codes.proofs.LowBits.{length-low}
use Rattle.codes.proofs.ReadSoFar.{counting-none, counting-bits}
use Rattle.codes.proofs.TakenCodes.{counted-code}
use Rattle.codes.proofs.PassedWords.{longer}
use Rattle.compact.proofs.skim_each.Goals as goal

pub loop-left-init : goal.loop-left-init
loop-left-init g c = record { brief = omega arith; passed = counting-none _ _ }

pub returns-in_default : goal.returns-in_default
returns-in_default g c =
    let i = c.loop-left.invariant in
    record {
      brief = i.brief;
      stuck = λ _ more. c.in_default.ensures.none _ (longer c.args.held c.loop-left.left more _ c.window.ensures (omega arith));
      passed = i.passed;
    }

pub overflow_add-codes : goal.overflow_add-codes
overflow_add-codes g c = omega (arith, counting-bits c.loop-left.invariant.passed g.T.Table.laws.laws, length-low c.args.have c.args.held)

pub loop-left-preserved : goal.loop-left-preserved
loop-left-preserved g c =
    let i = c.loop-left.invariant in
    let f = c.in-Some.ensures.code in
    record {
      brief = omega (arith, i.brief, f.short, f.long, f.few);
      passed = counted-code g.T.Table.laws.mutes (low c.args.have c.args.held) c.args.held c.loop-left.left c.window.result c.loop-left.count
          c.loop-left.codes c.in-Some.code i.passed c.window.ensures f (omega (arith, f.long)) refl refl;
    }
