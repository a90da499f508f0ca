-- `pseudo_binary_reader::measure` meets its contract. The loop's invariant: the indicators and values that were passed leave what follows bit `at`.
-- Assumes nothing.
use mathlib.Core.Path.{subst}
use mathlib.Core.Bool.{Bool}
use Prim.Native.Nat.{◌+◌, ◌-◌, ◌*◌, ◌≤◌}
use native.Mathlib.Omega.{arith}
use lib.ListN.{length, drop}
use Rattle.bits.specs.Row.{bits}
use Rattle.bits.specs.Says.{Says}
use Rattle.codes.specs.Chain.{Fill}
use Rattle.codes.specs.Pack.{low}
use Rattle.codes.proofs.ReadSoFar.{counting-end}
use Rattle.pseudo_binary_reader.specs.Steps.Taken.{Nine}
use Rattle.pseudo_binary_reader.proofs.Starts.{starts-fill, starts-no-fill, starts-nine}
use Rattle.pseudo_binary_reader.proofs.Steps.{counting-run, stuck-indicator, stuck-value}
use Rattle.pseudo_binary_reader.proofs.measure.Goals.{After-first_indicator-indicator, Else-left-values}
use Rattle.pseudo_binary_reader.proofs.measure.Goals as goal

pub returns-then-at_end : goal.returns-then-at_end
returns-then-at_end c =
    let s = c.args.s.now in
    counting-end c.loop-b.invariant.3 _ _ (omega arith) (omega arith)
    (starts-fill s c.loop-b.at c.buffer_at-b.result c.buffer_at-b.ensures (omega (arith, c.loop-b.invariant))
    (subst (λ (t : Bool). Says t (Fill 7 (low c.buffer_at-b.result.have c.buffer_at-b.result.held))) c.if-at_end.true c.at_end.ensures))

-- the window is the next nine bits
nine : (f : After-first_indicator-indicator)
    → Nine (drop f.loop-b.at (bits f.args.s.now))
    f.window.result
nine f =
    starts-nine f.args.s.now f.loop-b.at f.buffer_at-b.result f.buffer_at-b.ensures (omega (arith, f.loop-b.invariant))
    f.window.result f.window.ensures

pub returns-then-end-at : goal.returns-then-end-at
returns-then-end-at c =
    let f' = (goal.at.returns-then-end-at c).After-first_indicator-indicator in
    let s = f'.args.s.now in
    let inside : f'.loop-b.at ≤ length s * 8 = omega (arith, f'.loop-b.invariant) in
    stuck-indicator s f'.loop-b.at inside c.window.result (nine f') c.first_indicator-indicator.result c.first_indicator-indicator.ensures
    f'.loop-b.invariant.3.said f'.loop-b.codes f'.loop-b.invariant.3.passed (omega (arith, c.if-end-at.true, f'.loop-b.invariant))
    (starts-no-fill s f'.loop-b.at f'.buffer_at-b.result f'.buffer_at-b.ensures inside
    (subst (λ (t : Bool). Says t (Fill 7 (low f'.buffer_at-b.result.have f'.buffer_at-b.result.held))) c.if-at_end.false
    c.at_end.ensures)) (omega arith)

pub returns-then-left-values : goal.returns-then-left-values
returns-then-left-values c =
    let f' = (goal.at.returns-then-left-values c).After-first_indicator-indicator in
    let s = f'.args.s.now in
    let i = c.first_indicator-indicator.result in
    stuck-value s f'.loop-b.at (omega (arith, f'.loop-b.invariant)) c.window.result (nine f') i c.first_indicator-indicator.ensures f'.loop-b.invariant.3.said f'.loop-b.codes
    f'.loop-b.invariant.3.passed
    (length s * 8 - f'.loop-b.at - c.width-width.result) (omega (arith, c.if-end-at.false)) (omega (arith, c.if-left-values.true)) (omega arith) (omega arith)

-- where the values are there: the bit after them is still within the data
there : (c : Else-left-values)
    → c.width-width.result + c.values-values.result * 6
    ≤ length c.args.s.now * 8
    - c.loop-b.at
there c = omega (arith, c.if-left-values.false, c.if-end-at.false)

pub loop-b-preserved : goal.loop-b-preserved
loop-b-preserved c =
    let f = (goal.at.loop-b-preserved c).After-first_indicator-indicator in
    let t = c.first_indicator-indicator.ensures in
    let room = there (goal.at.loop-b-preserved c).Else-left-values in (
      omega (arith, room, t.short),
      omega (arith, t.few, t.short),
      omega (arith, t.short),
      rw c.width-width.ensures (rw c.values-values.ensures (rw c.characters-n.ensures
          (counting-run c.args.s.now c.loop-b.at (omega (arith, c.loop-b.invariant)) c.window.result (nine f) c.first_indicator-indicator.result t c.loop-b.n c.loop-b.codes c.loop-b.invariant.3
          (omega (arith, room)) (omega arith)))),
    )
