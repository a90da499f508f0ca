-- `full_ascii_reader::put_each` meets its contract. Assumes nothing.
use mathlib.Core.Path.{sym, subst₂, subst⁻¹}
use Prim.Native.Nat.{◌-◌}
use native.Mathlib.Nat.{add-zero}
use native.Mathlib.Omega.{arith}
use Rattle.codes.specs.Pack.{low}
use Rattle.codes.specs.Steps.Passed.{LaidSoFar}
use Rattle.codes.proofs.ReadSoFar.{laying-none}
use Rattle.compact.proofs.Room.{word_room}
use Rattle.full_ascii.specs.Table.{scheme}
use Rattle.full_ascii_reader.specs.Steps.Passing.{table_laws}
use Rattle.full_ascii_reader.proofs.put_each.Goals as goal

pub loop-left-init : goal.loop-left-init
loop-left-init c =
    let bs = low c.args.have c.args.held in
    record {
      brief = omega arith;
      laid = subst⁻¹ (LaidSoFar scheme bs bs c.args.out.now c.args.out.now c.args.n) (add-zero c.args.n)
          (laying-none scheme bs c.args.out.now c.args.n);
    }

pub put-requires : goal.put-requires
put-requires c =
    let f = c.first_code-c.ensures in
    let r = word_room c.args.held c.args.have table_laws c.requires.1 c.requires.2 c.loop-left.invariant.laid c.window.ensures f (omega (arith, f.long)) in
    (f.some, f.few, omega (arith, r.room, r.same))

pub loop-left-preserved : goal.loop-left-preserved
loop-left-preserved c =
    let f = c.first_code-c.ensures in
    let width = c.first_code-c.result.width in
    let i = c.loop-left.invariant in
    let r = word_room c.args.held c.args.have table_laws c.requires.1 c.requires.2 i.laid c.window.ensures f (omega (arith, f.long)) in
    record {
      brief = omega (arith, i.brief, f.short, f.long, f.few);
      laid = subst₂ (λ out m. LaidSoFar scheme (low c.args.have c.args.held) (low (c.loop-left.left - width) c.args.held) c.args.out.now out c.args.n m)
          (sym c.put.ensures) (omega arith) r.step;
    }
