-- `shef_reader::skim_nine` meets its contract. Assumes nothing.
use Rattle.std.proofs.Common.{◌/◌, ◌^◌, ◌<◌, ◌≤◌, refl, arith}
use Rattle.codes.specs.Pack.{low}
use Rattle.codes.proofs.ReadSoFar.{counting-none}
use Rattle.codes.proofs.TakenCodes.{counted-code}
use Rattle.shef.specs.Table.{scheme}
use Rattle.shef.proofs.Table.{mutes}
use Rattle.shef_reader.proofs.Six.{characters-few, count-tells, any_code, six-window, six-on}
use Rattle.shef_reader.proofs.skim_nine.Goals as goal

pub loop-init : goal.loop-init
loop-init c = record {
  most = omega arith;
  least = omega arith;
  count = omega arith;
  taken = omega arith;
  top = refl;
  few = λ h. omega arith;
  passed = λ h. counting-none scheme (low c.args.have c.args.held);
}

pub loop-preserved : goal.loop-preserved
loop-preserved c =
    let held = c.args.held in
    let i = c.loop.invariant in
    let six = c.loop.top / 2 ^ 58 in
    let width = c.width_of-left.result in
    let small : six < 64 = omega arith in
    let tells = count-tells small c.count_at-count.ensures.code c.count_at-count.ensures.ones in
    let wide : (5 ≤ width) × (width ≤ 6) = (omega (arith, c.width_of-left.ensures), omega (arith, c.width_of-left.ensures)) in
    record {
      most = omega (arith, wide);
      least = omega (arith, wide);
      count = omega (arith, tells.0);
      taken = omega (arith, i.taken);
      top = six-on held c.loop.left c.loop.top six width c.shifted-top.ensures c.width_of-left.ensures (omega (arith, wide)) (omega arith) i.top;
      few = λ h. omega (arith, i.few (omega arith), c.count_at-count.ensures.code (tells.1 (omega arith)), characters-few six);
      passed = λ h.
          let below : six < 63 = tells.1 (omega arith) in
          let v = six-window held c.loop.left c.loop.top (omega arith) (omega arith) i.top in
          counted-code mutes (low c.args.have held) held c.loop.left v.0 c.loop.count c.loop.counter _ (i.passed (omega arith)) v.1
          (any_code v.0 v.2 below c.width_of-left.ensures (c.count_at-count.ensures.code below)) (omega (arith, wide)) refl (omega arith);
    }
