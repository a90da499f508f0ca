-- `pseudo_binary_reader::put_text` meets its contract. The loop's invariant: eight bits or fewer are left, and if what was said before the loop stands
-- in a buffer that was given, so does what was said up to bit `at`. Assumes nothing.
use mathlib.Core.Path.{◌≡◌, subst}
use mathlib.Core.Bool.{Bool}
use mathlib.Core.List.{List}
use Prim.Native.Nat.{ℕ}
use native.Mathlib.Omega.{arith}
use lib.ListN.{length}
use Rattle.bits.specs.Row.{bits}
use Rattle.bits.specs.Says.{Says}
use Rattle.codes.specs.Chain.{Fill}
use Rattle.codes.specs.Steps.Laid.{Readable}
use Rattle.codes.specs.Pack.{low}
use Rattle.codes.proofs.ReadSoFar.{laying-length}
use Rattle.pseudo_binary.specs.Table.{scheme}
use Rattle.pseudo_binary_reader.specs.Steps.Taken.{FirstIndicator}
use Rattle.pseudo_binary_reader.specs.declared.Indicator.{Indicator}
use Rattle.pseudo_binary_reader.proofs.Starts.{starts-fill, starts-no-fill, starts-nine}
use Rattle.pseudo_binary_reader.proofs.Steps.{Stands, Whole, whole, laid_end}
use Rattle.pseudo_binary_reader.proofs.put_text.Goals.{After-buffer_at-b, After-first_indicator}
use Rattle.pseudo_binary_reader.proofs.put_text.Goals as goal

-- of the buffer that the function was given
stands : (a : After-buffer_at-b)
    → Stands a.args.s.now a.args.out.now
    a.loop-b.out a.loop-b.at a.loop-b.n
stands a =
    a.loop-b.invariant.2 a.args.out.now a.requires.1 (a.read_most-most.ensures.at_in_bounds.2, a.read_most-most.ensures.laid_so_far)

same : (a : After-buffer_at-b)
    → length a.loop-b.out ≡ length a.args.out.now
same a = laying-length (stands a).1 (stands a).0

pub returns-then-at_end : goal.returns-then-at_end
returns-then-at_end c =
    let s = c.args.s.now in
    laid_end _ (omega arith) (stands (goal.at.returns-then-at_end c).After-buffer_at-b).1
    (starts-fill s c.loop-b.at c.buffer_at-b.result c.buffer_at-b.ensures c.loop-b.invariant.0
    (subst (λ (t : Bool). Says t (Fill 7 (low c.buffer_at-b.result.have c.buffer_at-b.result.held))) c.if-at_end.true c.at_end.ensures))

-- at the indicator that was found: its bits and its values are there, and there is room for what they say
found : (f : After-first_indicator) (r : Indicator) → f.first_indicator.result ≡ r → (entry : List ℕ) → Readable scheme (bits f.args.s.now) (length entry)
    → Stands f.args.s.now entry f.loop-b.out f.loop-b.at f.loop-b.n → Whole f.args.s.now f.loop-b.at r entry f.loop-b.out f.loop-b.n
found f r is entry readable y =
    let s = f.args.s.now in
    let at = f.loop-b.at in
    let buffer = f.buffer_at-b.result in
    subst (λ r. Whole s at r entry f.loop-b.out f.loop-b.n) is
    (whole s at f.loop-b.invariant.0 f.window.result
    (starts-nine s at buffer f.buffer_at-b.ensures f.loop-b.invariant.0 f.window.result f.window.ensures)
    f.first_indicator.result f.first_indicator.ensures entry f.loop-b.out f.loop-b.n y.1 readable
    (starts-no-fill s at buffer f.buffer_at-b.ensures f.loop-b.invariant.0
    (subst (λ (t : Bool). Says t (Fill 7 (low buffer.have buffer.held))) f.if-at_end.false f.at_end.ensures))
    y.0)

-- in the buffer that the function was given
here : (f : After-first_indicator) (r : Indicator) → f.first_indicator.result ≡ r → Whole f.args.s.now f.loop-b.at r f.args.out.now f.loop-b.out f.loop-b.n
here f r is =
    found f r is f.args.out.now f.requires.1
    (f.loop-b.invariant.2 f.args.out.now f.requires.1 (f.read_most-most.ensures.at_in_bounds.2, f.read_most-most.ensures.laid_so_far))

-- it announces no values: they would have no bits
pub unreachable-requires : goal.unreachable-requires
unreachable-requires c =
    let k = subst (FirstIndicator c.window.result) c.in_default.is c.first_indicator.ensures in
    omega (arith, (here (goal.at.unreachable-requires c).After-first_indicator _ c.in_default.is).there, k.some, c.loop-b.invariant.1)

pub repeat-requires : goal.repeat-requires
repeat-requires c =
    let place = goal.at.repeat-requires c in
    omega (arith, (here place.After-first_indicator _ c.in-Repeat.is).room, same place.After-buffer_at-b)

pub loop-b-smaller : goal.loop-b-smaller
loop-b-smaller c = omega (arith, (here (goal.at.loop-b-smaller c).After-first_indicator _ c.in-Repeat.is).there)

pub loop-b-preserved : goal.loop-b-preserved
loop-b-preserved c =
    let f = (goal.at.loop-b-preserved c).After-first_indicator in (
      omega (arith, (here f _ c.in-Repeat.is).there),
      omega (arith, c.loop-b.invariant.1),
      λ entry readable y.
          let w = found f _ c.in-Repeat.is entry readable (c.loop-b.invariant.2 entry readable y) in (w.room, w.next c.repeat.new.out c.repeat.ensures),
    )
