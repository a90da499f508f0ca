-- `reader::read_text` meets its contract.
-- Assumes nothing.
use native.Mathlib.Omega.{arith}
use Rattle.examine.proofs.AcceptedData.{short, all_there}
use Rattle.reader.proofs.ReadAnswers.{no_room, room, put_in}
use Rattle.reader.proofs.read_text.Goals as goal

pub returns-then-text-needed : goal.returns-then-text-needed
returns-then-text-needed c =
    let s = c in
    no_room s.args.terms s.args.packet.now s.requires.0 s.args.text.now s.args.reading s.requires.1.0 s.requires.1.1 _ (omega arith)
    (omega (arith, c.if-text-needed.true))

pub put_text-requires : goal.put_text-requires
put_text-requires c =
    let s = c in
    let t = s.args.terms in
    let p = s.args.packet.now in
    let r = s.args.reading in (
      short t p s.requires.0.bytes r s.requires.1.0 s.requires.1.1,
      all_there t p s.requires.0.bytes r s.requires.1.0 s.requires.1.1,
      room t p s.requires.0 r s.requires.1.0 s.requires.1.1 s.args.text.now (omega (arith, c.if-text-needed.false)),
    )

pub returns : goal.returns
returns c =
    let p = c in
    let s = p in
    put_in s.args.terms s.args.packet.now s.requires.0 s.args.reading s.requires.1.0 s.requires.1.1 s.args.text.now
    (omega (arith, p.if-text-needed.false)) p.put_text.new.out p.put_text.result p.put_text.ensures
