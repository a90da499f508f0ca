-- `pseudo_binary_writer::values_by_eight` meets its contract. The loop's invariant: the characters that were passed are values.
-- Assumes nothing.
use mathlib.Core.Path.{subst}
use Prim.Native.Nat.{ℕ, ◌+◌, ◌/◌, ◌≤◌}
use native.Mathlib.Omega.{arith}
use lib.Count.{count_leading_zeros, leading_le}
use lib.ListN.{take, drop}
use Rattle.pseudo_binary.specs.Table.{values}
use Rattle.pseudo_binary.specs.Writer.{Alike}
use Rattle.pseudo_binary_writer.proofs.Eight.{alike-more}
use Rattle.pseudo_binary_writer.proofs.values_by_eight.Goals.{After-others_at-others}
use Rattle.pseudo_binary_writer.proofs.values_by_eight.Goals as goal

-- so many of the next eight are values too
on : (f : After-others_at-others)
    → Alike values (take (f.loop-n.n + count_leading_zeros 64 f.others_at-others.result / 8)
    (drop f.args.i f.args.text.now))
on f =
    alike-more values f.args.text.now f.args.i f.loop-n.n (count_leading_zeros 64 f.others_at-others.result / 8) f.loop-n.invariant.2 f.others_at-others.ensures

few : (f : After-others_at-others) → count_leading_zeros 64 f.others_at-others.result ≤ 64
few f = leading_le 64 f.others_at-others.result

pub returns-then-others-ne0 : goal.returns-then-others-ne0
returns-then-others-ne0 c = (omega (arith, few (goal.at.returns-then-others-ne0 c).After-others_at-others), omega (arith, few (goal.at.returns-then-others-ne0 c).After-others_at-others), on (goal.at.returns-then-others-ne0 c).After-others_at-others)

pub loop-n-preserved : goal.loop-n-preserved
unfolding count_leading_zeros
loop-n-preserved c =
    let f' = (goal.at.loop-n-preserved c).After-others_at-others in (
      omega arith,
      omega arith,
      subst (λ (x : ℕ). Alike values (take (f'.loop-n.n + count_leading_zeros 64 x / 8) (drop f'.args.i f'.args.text.now))) c.if-others-ne0.false (on f'),
    )
