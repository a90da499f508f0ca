-- `full_ascii_reader::put_plain` meets its contract. Assumes nothing.
use mathlib.Core.Path.{refl, sym, subst₂, subst⁻¹}
use Prim.Native.Nat.{ℕ, ◌-◌, ◌<◌}
use native.Mathlib.Nat.{add-zero}
use native.Mathlib.Omega.{arith}
use Rattle.codes.specs.Pack.{low}
use Rattle.codes.specs.Steps.Passed.{LaidSoFar}
use Rattle.codes.proofs.ReadSoFar.{laying-none}
use Rattle.codes.proofs.EightBytes.{top-bits, top-on}
use Rattle.compact.proofs.Room.{word_room}
use Rattle.full_ascii.specs.Table.{scheme}
use Rattle.full_ascii_reader.specs.Steps.Passing.{table_laws}
use Rattle.full_ascii_reader.proofs.Seven.{seven-takes}
use Rattle.full_ascii_reader.proofs.put_plain.Goals.{After-first_plain-c}
use Rattle.full_ascii_reader.proofs.put_plain.Goals as goal

pub loop-k-init : goal.loop-k-init
loop-k-init c =
    let bs = low c.args.have c.args.held in
    record {
      most = omega arith;
      least = omega arith;
      top = refl;
      laid = subst⁻¹ (LaidSoFar scheme bs bs c.args.out.now c.args.out.now c.args.n) (add-zero c.args.n)
          (laying-none scheme bs c.args.out.now c.args.n);
    }

pub first_plain-c-requires : goal.first_plain-c-requires
first_plain-c-requires c =
    subst⁻¹ (λ (n : ℕ). n < 127) (top-bits c.args.held c.loop-k.left c.loop-k.top 7 (omega arith) (omega arith) c.loop-k.invariant.top)
    (c.requires.2 (c.loop-k.left - 7))

pub put-requires : goal.put-requires
put-requires c =
    let t = seven-takes c.args.held c.loop-k.left c.loop-k.top c.first_plain-c.result (omega arith) (omega arith) c.loop-k.invariant.top c.first_plain-c.ensures.3 in
    let r = word_room c.args.held c.args.have table_laws c.requires.3 c.requires.4 c.loop-k.invariant.laid t.1 t.2 (omega (arith, c.first_plain-c.ensures.1)) in
    (t.2.some, t.2.few, omega (arith, r.room, r.same))

pub loop-k-preserved : goal.loop-k-preserved
loop-k-preserved c =
    let i = c.loop-k.invariant in
    let f = c.first_plain-c.ensures in
    let width = c.first_plain-c.result.width in
    let t = seven-takes c.args.held c.loop-k.left c.loop-k.top c.first_plain-c.result (omega arith) (omega arith) i.top f.3 in
    let r = word_room c.args.held c.args.have table_laws c.requires.3 c.requires.4 i.laid t.1 t.2 (omega (arith, f.1)) in
    record {
      most = omega (arith, f.0, f.1);
      least = omega (arith, f.1);
      top = top-on c.args.held c.loop-k.left c.loop-k.top width (omega (arith, f.1)) (omega arith) i.top;
      laid = subst₂ (λ out m. LaidSoFar scheme (low c.args.have c.args.held) (low (c.loop-k.left - width) c.args.held) c.args.out.now out c.args.n m)
          (sym c.put.ensures) (omega (arith, f.2)) r.step;
    }
