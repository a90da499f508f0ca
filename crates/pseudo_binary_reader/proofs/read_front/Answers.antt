-- `pseudo_binary_reader::read_front` meets its contract.
-- Assumes nothing.
use mathlib.Core.Path.{◌≡◌, subst}
use Prim.Native.Nat.{◌/◌, ◌^◌}
use native.Mathlib.Omega.{arith}
use lib.ListN.{length, drop}
use Rattle.bits.specs.Row.{bits}
use Rattle.codes.proofs.ReadSoFar.{laying-none, laying-length}
use Rattle.pseudo_binary.specs.Table.{scheme}
use Rattle.pseudo_binary_reader.specs.declared.Indicator.TheVariants.{Values, Repeat}
use Rattle.pseudo_binary_reader.proofs.Starts.{top-nine}
use Rattle.pseudo_binary_reader.proofs.Steps.{Whole, whole, length-left}
use Rattle.pseudo_binary_reader.proofs.read_front.Goals.{In-loop-at, In-Repeat, In-Values}
use Rattle.pseudo_binary_reader.proofs.read_front.Goals as goal

pub returns-then-s-lt8-clause-laid_so_far : goal.returns-then-s-lt8-clause-laid_so_far
returns-then-s-lt8-clause-laid_so_far c = laying-none scheme (bits c.args.s.now) c.args.out.now 0

pub loop-at-init : goal.loop-at-init
loop-at-init c = (omega arith, omega arith, laying-none scheme (bits c.args.s.now) c.args.out.now 0)

-- the buffer keeps its length
same : (a : In-loop-at) → length a.loop-at.out ≡ length a.args.out.now
same a = laying-length a.loop-at.invariant.2 a.loop-at.invariant.1

-- at the indicator that was found: its bits and its values are there, and there is room for what they say
repeats : (c : In-Repeat) → Whole c.args.s.now c.loop-at.at (Repeat c.in-Repeat.count c.in-Repeat.character) c.args.out.now c.loop-at.out c.loop-at.n
repeats c =
    let s = c.args.s.now in
    let at = c.loop-at.at in
    let top = c.top_at-top.result in
    let far = c.loop-at-test.true in
    subst (λ r. Whole s at r c.args.out.now c.loop-at.out c.loop-at.n) c.in-Repeat.is
    (whole s at c.loop-at.invariant.0 (top / 2 ^ 55)
    (top-nine (drop at (bits s)) top (omega (arith, length-left s at, far)) (omega (arith, c.top_at-top)) c.top_at-top.ensures)
    c.first_indicator.result c.first_indicator.ensures c.args.out.now c.loop-at.out c.loop-at.n c.loop-at.invariant.2 c.requires.1
    (λ fill. omega (arith, fill.few, length-left s at, far)) c.loop-at.invariant.1)

announces : (c : In-Values) → Whole c.args.s.now c.loop-at.at (Values c.in-Values.count) c.args.out.now c.loop-at.out c.loop-at.n
announces c =
    let s = c.args.s.now in
    let at = c.loop-at.at in
    let top = c.top_at-top.result in
    let far = c.loop-at-test.true in
    subst (λ r. Whole s at r c.args.out.now c.loop-at.out c.loop-at.n) c.in-Values.is
    (whole s at c.loop-at.invariant.0 (top / 2 ^ 55)
    (top-nine (drop at (bits s)) top (omega (arith, length-left s at, far)) (omega (arith, c.top_at-top)) c.top_at-top.ensures)
    c.first_indicator.result c.first_indicator.ensures c.args.out.now c.loop-at.out c.loop-at.n c.loop-at.invariant.2 c.requires.1
    (λ fill. omega (arith, fill.few, length-left s at, far)) c.loop-at.invariant.1)

pub repeat-requires : goal.repeat-requires
repeat-requires c = omega (arith, (repeats (goal.at.repeat-requires c).In-Repeat).room, same (goal.at.repeat-requires c).In-loop-at)

pub loop-at-preserved-in-Repeat : goal.loop-at-preserved-in-Repeat
loop-at-preserved-in-Repeat c =
    let w = repeats (goal.at.loop-at-preserved-in-Repeat c).In-Repeat in
    (omega (arith, w.there), w.room, w.next c.repeat.new.out c.repeat.ensures)

pub read_values-requires-clause-s_len_bound : goal.read_values-requires-clause-s_len_bound
read_values-requires-clause-s_len_bound c =
    let w = announces (goal.at.read_values-requires-clause-s_len_bound c).In-Values in
    (c.requires.0, omega (arith, w.there), c.top_at-top.ensures)

pub read_values-requires-clause-count_in_bounds : goal.read_values-requires-clause-count_in_bounds
read_values-requires-clause-count_in_bounds c =
    let place = goal.at.read_values-requires-clause-count_in_bounds c in
    omega (arith, (announces place.In-Values).room, same place.In-loop-at)

pub loop-at-preserved : goal.loop-at-preserved
loop-at-preserved c =
    let w = announces (goal.at.loop-at-preserved c).In-Values in
    (omega (arith, w.there), w.room, w.next c.read_values.new.out c.read_values.ensures)
