-- `compact::read_last` meets its contract. Assumes nothing.
use Rattle.std.proofs.Common.{◌+◌, ◌-◌, sym, subst, arith}
use Rattle.codes.specs.Chain.{single}
use Rattle.codes.specs.Pack.{low}
use Rattle.codes.specs.Steps.Passed.{LaidSoFar}
use Rattle.codes.proofs.OneReading.{stuck-here, never_both}
use Rattle.codes.proofs.ReadSoFar.{laying-none, laying-later}
use Rattle.compact.proofs.Room.{code_room}
use Rattle.compact.proofs.read_last.Goals as goal

pub loop-code-init : goal.loop-code-init
loop-code-init g c = record { left = omega arith; room = omega arith; laid = laying-none _ _ _ _ }

pub unreachable-requires : goal.unreachable-requires
unreachable-requires g c =
    never_both g.T.Table.laws.laws (laying-later c.loop-code.invariant.laid g.T.Table.laws.laws c.requires.2).reads
    (stuck-here (c.in_default.ensures.none) (λ e. c.loop-code-test.ensures))

pub put-requires : goal.put-requires
put-requires g c =
    let f = c.in-Some.ensures.code in
    let i = c.loop-code.invariant in
    let r = code_room g.T.Table.laws c.requires.2 i.laid c.in-Some.ensures.code i.room c.requires.1 in
    (f.first.some, f.first.few, omega (arith, r.room, r.same))

pub loop-code-preserved : goal.loop-code-preserved
loop-code-preserved g c =
    let i = c.loop-code.invariant in
    let r = code_room g.T.Table.laws c.requires.2 i.laid c.in-Some.ensures.code i.room c.requires.1 in
    record {
      left = omega (arith, i.left);
      room = r.room;
      laid = subst (λ l. LaidSoFar (single g.T.Table.table 7) (low c.args.have c.args.held) (low (c.loop-code.left - c.in-Some.code.width) c.args.held)
          c.args.out.now l c.args.n (c.loop-code.at + c.in-Some.code.count)) (sym c.put.ensures) r.step;
    }
