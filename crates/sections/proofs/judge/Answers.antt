-- `sections::judge` meets its contract.
-- Assumes nothing.
use Rattle.bits.specs.Says.{Says}
use Rattle.bits.proofs.Below.{below_next}
use Rattle.bits.proofs.Said.{said-yes, said-no}
use Rattle.sections.proofs.Lent.{tested}
use native.Mathlib.Omega.{arith}
use Rattle.sections.specs.Sections.{RightSum}
use Rattle.sections.proofs.judge.Goals.{After-agrees}
use Rattle.sections.proofs.judge.Goals as goal

-- ---- the facts, by place

tested_at : (c : After-agrees) → Says c.agrees.result (RightSum c.args.n c.args.came.now c.loop-k.k)
tested_at c =
    tested c.args.n c.loop-k.k c.size.result c.args.came.now
    c.size.ensures (omega arith) c.agrees.result c.agrees.ensures

pub returns-then-not-agrees : goal.returns-then-not-agrees
returns-then-not-agrees c =
    record {
      there = omega arith;
      before = c.loop-k.invariant;
      wrong = said-no c.agrees.result (tested_at (goal.at.returns-then-not-agrees c).After-agrees) c.if-not-agrees.true;
    }

pub loop-k-preserved : goal.loop-k-preserved
loop-k-preserved c j lt =
    below_next (RightSum c.args.n c.args.came.now) c.loop-k.k c.loop-k.invariant
    (said-yes c.agrees.result (tested_at (goal.at.loop-k-preserved c).After-agrees) c.if-not-agrees.false) j (omega (arith, lt))
