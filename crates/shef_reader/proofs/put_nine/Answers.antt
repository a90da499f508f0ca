-- `shef_reader::put_nine` meets its contract. Assumes nothing.
use Rattle.std.proofs.Common.{ℕ, ◌+◌, ◌-◌, ◌/◌, ◌^◌, refl, sym, subst₂, add-zero, arith}
use mathlib.Core.Path.{subst⁻¹}
use Rattle.codes.specs.Steps.BitBuffer.{Window}
use Rattle.codes.specs.Pack.{low}
use Rattle.codes.specs.Steps.Passed.{LaidSoFar}
use Rattle.codes.specs.Steps.Taken.{FirstCode}
use Rattle.codes.proofs.ReadSoFar.{laying-none, laying-front, laying-later}
use Rattle.compact.proofs.Room.{CodeRoom, word_room}
use Rattle.shef.specs.Table.{table, scheme}
use Rattle.shef.proofs.Table.{laws}
use Rattle.shef_reader.specs.Steps.Reading.{table_laws}
use Rattle.shef_reader.proofs.Six.{six-window, readable-top, six-on}
use Rattle.shef_reader.proofs.put_nine.Goals.{After-code_of-c}
use Rattle.shef_reader.proofs.put_nine.Goals as goal

pub loop-init : goal.loop-init
loop-init c =
    let bs = low c.args.have c.args.held in
    record {
      most = omega arith;
      least = omega arith;
      few = omega arith;
      top = refl;
      laid = subst⁻¹ (LaidSoFar scheme bs bs c.args.out.now c.args.out.now c.args.n) (add-zero c.args.n)
          (laying-none scheme bs c.args.out.now c.args.n);
    }

pub code_of-c-requires : goal.code_of-c-requires
code_of-c-requires c =
    let b = c.requires.3 in
    let i = c.loop.invariant in
    readable-top c.args.held c.loop.left c.loop.top (omega arith) (omega arith) i.top b.0 (laying-later (laying-front i.laid b.0) laws b.1)

-- the code is that of the window
taken : (c : After-code_of-c) → (w : ℕ) × Window c.args.held c.loop.left w × FirstCode table w c.code_of-c.result
taken c =
    let v = six-window c.args.held c.loop.left c.loop.top (omega arith) (omega arith) c.loop.invariant.top in
    (v.0, v.1, c.code_of-c.ensures.1 v.0 v.2)

room : (c : After-code_of-c)
    → CodeRoom table (low c.args.have c.args.held) c.args.out.now c.loop.out c.args.n (c.args.n + c.loop.count) c.args.held c.loop.left c.code_of-c.result
room c =
    let t = taken c in
    word_room c.args.held c.args.have table_laws c.requires.2 c.requires.3 c.loop.invariant.laid t.1 t.2 (omega (arith, t.2.long))

pub put-requires : goal.put-requires
put-requires c =
    let f = (goal.at.put-requires c).After-code_of-c in
    let t = (taken f).2 in
    let r = room f in
    (t.some, t.few, omega (arith, r.room, r.same))

pub overflow_add-count : goal.overflow_add-count
overflow_add-count c = omega (arith, (taken (goal.at.overflow_add-count c).After-code_of-c).2.few)

pub loop-preserved : goal.loop-preserved
loop-preserved c =
    let f = (goal.at.loop-preserved c).After-code_of-c in
    let t = (taken f).2 in
    let width = c.code_of-c.result.width in
    record {
      most = omega (arith, t.short);
      least = omega (arith, c.code_of-c.ensures.0);
      few = omega (arith, t.few);
      top = six-on c.args.held c.loop.left c.loop.top (c.loop.top / 2 ^ 58) width c.shifted-top.ensures c.code_of-c.ensures.0 (omega (arith, t.long))
          (omega arith) c.loop.invariant.top;
      laid = subst₂ (λ out m. LaidSoFar scheme (low c.args.have c.args.held) (low (c.loop.left - width) c.args.held) c.args.out.now out c.args.n m)
          (sym c.put.ensures) (omega arith) (room f).step;
    }
