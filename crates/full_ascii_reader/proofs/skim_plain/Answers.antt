-- `full_ascii_reader::skim_plain` meets its contract. Assumes nothing.
use mathlib.Core.Path.{refl, subst⁻¹}
use Prim.Native.Nat.{ℕ, ◌-◌, ◌<◌}
use native.Mathlib.Omega.{arith}
use Rattle.codes.specs.Pack.{low}
use Rattle.codes.proofs.ReadSoFar.{counting-none}
use Rattle.codes.proofs.EightBytes.{top-bits, top-on}
use Rattle.codes.proofs.TakenCodes.{counted-code}
use Rattle.full_ascii.specs.Table.{scheme}
use Rattle.full_ascii.proofs.Table.{mutes}
use Rattle.full_ascii_reader.proofs.Seven.{seven-takes}
use Rattle.full_ascii_reader.proofs.skim_plain.Goals as goal

pub loop-init : goal.loop-init
loop-init c = record { most = omega arith; least = omega arith; taken = omega arith; said = omega arith; top = refl; passed = counting-none scheme (low c.args.have c.args.held) }

pub first_plain-c-requires : goal.first_plain-c-requires
first_plain-c-requires c =
    subst⁻¹ (λ (n : ℕ). n < 127) (top-bits c.args.held c.loop.left c.loop.top 7 (omega arith) (omega arith) c.loop.invariant.top)
    (c.requires.2 (c.loop.left - 7))

pub loop-preserved : goal.loop-preserved
loop-preserved c =
    let i = c.loop.invariant in
    let r = c.first_plain-c.result in
    let f = c.first_plain-c.ensures in
    let t = seven-takes c.args.held c.loop.left c.loop.top r (omega arith) (omega arith) i.top f.3 in
    record {
      most = omega (arith, f.0, f.1);
      least = omega (arith, f.1);
      taken = omega (arith, i.taken);
      said = omega (arith, i.said, f.2);
      top = top-on c.args.held c.loop.left c.loop.top r.width (omega (arith, f.1)) (omega arith) i.top;
      passed = counted-code mutes (low c.args.have c.args.held) c.args.held c.loop.left t.0 c.loop.counter c.loop.counter r i.passed t.1 t.2
          (omega (arith, f.1)) (omega (arith, f.2)) (omega arith);
    }
