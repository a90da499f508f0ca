-- `pseudo_binary_reader::read_most` meets its contract. The loop's invariant: if what was said before the loop stands in a buffer that was given, so does
-- what was said up to bit `at`. Assumes nothing.
use mathlib.Core.List.{List}
use Prim.Native.Nat.{ℕ}
use native.Mathlib.Omega.{arith}
use lib.ListN.{length}
use Rattle.bits.specs.Row.{bits}
use Rattle.codes.specs.Steps.Laid.{Readable}
use Rattle.codes.proofs.ReadSoFar.{laying-length}
use Rattle.pseudo_binary.specs.Table.{scheme}
use Rattle.pseudo_binary_reader.proofs.Steps.{Stands, Whole, whole, length-left}
use Rattle.pseudo_binary_reader.proofs.read_most.Goals.{After-first_indicator-run, After-loop-at}
use Rattle.pseudo_binary_reader.proofs.read_most.Goals as goal

pub loop-at-init : goal.loop-at-init
loop-at-init c = (c.read_front-front.ensures.at_in_bounds.0, λ entry f h. h)

-- at the indicator that was found: its bits and its values are there, and there is room for what they say
found : (f : After-first_indicator-run) (entry : List ℕ) → Readable scheme (bits f.args.s.now) (length entry)
    → Stands f.args.s.now entry f.loop-at.out f.loop-at.at f.loop-at.n
    → Whole f.args.s.now f.loop-at.at f.first_indicator-run.result entry f.loop-at.out f.loop-at.n
found f entry readable y =
    let s = f.args.s.now in
    whole s f.loop-at.at f.loop-at.invariant.0 f.nine_at.result f.nine_at.ensures f.first_indicator-run.result
    f.first_indicator-run.ensures entry f.loop-at.out f.loop-at.n y.1 readable
    (λ fill. omega (arith, fill.few, length-left s f.loop-at.at, f.loop-at-test.true)) y.0

-- in the buffer that the function was given
stands : (f : After-first_indicator-run) → Stands f.args.s.now f.args.out.now f.loop-at.out f.loop-at.at f.loop-at.n
stands f =
    let m = f.read_front-front.ensures in
    f.loop-at.invariant.1 f.args.out.now f.requires.1 (m.at_in_bounds.1, m.laid_so_far)

here : (f : After-first_indicator-run)
    → Whole f.args.s.now f.loop-at.at f.first_indicator-run.result f.args.out.now f.loop-at.out f.loop-at.n
here f = found f f.args.out.now f.requires.1 (stands f)

-- and after the loop
stands-2 : (a : After-loop-at) → Stands a.args.s.now a.args.out.now a.loop-at.out a.loop-at.at a.loop-at.n
stands-2 a =
    let m = a.read_front-front.ensures in
    a.loop-at.invariant.1 a.args.out.now a.requires.1 (m.at_in_bounds.1, m.laid_so_far)

pub read_run-requires : goal.read_run-requires
read_run-requires c =
    let f = (goal.at.read_run-requires c).After-first_indicator-run in
    record {
      s_len_bound = (c.requires.0, omega (arith, (here f).there));
      count_in_bounds = omega (arith, (here f).room, laying-length (stands f).1 (stands f).0);
    }

pub loop-at-smaller : goal.loop-at-smaller
loop-at-smaller c = omega (arith, (here (goal.at.loop-at-smaller c).After-first_indicator-run).there, c.first_indicator-run.ensures.short)

pub loop-at-preserved : goal.loop-at-preserved
loop-at-preserved c =
    let f = (goal.at.loop-at-preserved c).After-first_indicator-run in (
      omega (arith, (here f).there, c.first_indicator-run.ensures.short),
      λ entry readable y.
          let w = found f entry readable (c.loop-at.invariant.1 entry readable y) in
          rw c.width-width.ensures (rw c.values.ensures (rw c.characters-n.ensures
          (w.room, w.next c.read_run.new.out (rw c.width-width.ensures at c.read_run.ensures)))),
    )

pub shape_of-out : goal.shape_of-out
shape_of-out c = laying-length (stands-2 c).1 (stands-2 c).0

pub returns : goal.returns
returns c =
    record { at_in_bounds = (c.loop-at.invariant.0, omega (arith, c.loop-at-test.false), (stands-2 c).0); laid_so_far = (stands-2 c).1 }
