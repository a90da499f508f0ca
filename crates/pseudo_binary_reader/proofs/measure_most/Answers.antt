-- `pseudo_binary_reader::measure_most` meets its contract.
-- Assumes nothing.
use mathlib.Core.Path.{subst}
use Prim.Native.Nat.{◌/◌, ◌^◌}
use native.Mathlib.Omega.{arith}
use lib.ListN.{drop}
use Rattle.bits.specs.Row.{bits}
use Rattle.codes.proofs.ReadSoFar.{counting-none}
use Rattle.pseudo_binary.specs.Table.{scheme}
use Rattle.pseudo_binary_reader.specs.Steps.Taken.{FirstIndicator}
use Rattle.pseudo_binary_reader.specs.declared.Indicator.TheVariants.{Values, Repeat}
use Rattle.pseudo_binary_reader.proofs.Starts.{top-nine}
use Rattle.pseudo_binary_reader.proofs.Steps.{counting-run, length-left}
use Rattle.pseudo_binary_reader.proofs.measure_most.Goals as goal

pub returns-then-s-lt8-clause-counted_so_far : goal.returns-then-s-lt8-clause-counted_so_far
returns-then-s-lt8-clause-counted_so_far c = counting-none scheme (bits c.args.s.now)

pub loop-at-init : goal.loop-at-init
loop-at-init c = (omega arith, omega arith, omega arith, counting-none scheme (bits c.args.s.now))

pub loop-at-preserved-in-Repeat : goal.loop-at-preserved-in-Repeat
loop-at-preserved-in-Repeat c =
    let s = c.args.s.now in
    let at = c.loop-at.at in
    let top = c.top_at.result in
    let k = subst (FirstIndicator (top / 2 ^ 55)) c.in-Repeat.is c.first_indicator.ensures in (
      omega (arith, c.loop-at-test.true),
      omega (arith, k.few),
      omega arith,
      counting-run s at c.loop-at.invariant.0 (top / 2 ^ 55)
          (top-nine (drop at (bits s)) top (omega (arith, length-left s at, c.loop-at-test.true)) (omega (arith, c.top_at)) c.top_at.ensures)
          (Repeat c.in-Repeat.count c.in-Repeat.field-1) k c.loop-at.n c.loop-at.codes c.loop-at.invariant.3 (omega (arith, c.loop-at-test.true)) (omega arith),
    )

pub loop-at-preserved : goal.loop-at-preserved
loop-at-preserved c =
    let s = c.args.s.now in
    let at = c.loop-at.at in
    let top = c.top_at.result in
    let k = subst (FirstIndicator (top / 2 ^ 55)) c.in-Values.is c.first_indicator.ensures in (
      omega (arith, c.if-end-next.false),
      omega arith,
      omega arith,
      counting-run s at c.loop-at.invariant.0 (top / 2 ^ 55)
          (top-nine (drop at (bits s)) top (omega (arith, length-left s at, c.loop-at-test.true)) (omega (arith, c.top_at)) c.top_at.ensures)
          (Values c.in-Values.count) k c.loop-at.n c.loop-at.codes c.loop-at.invariant.3 (omega (arith, c.if-end-next.false)) (omega arith),
    )
