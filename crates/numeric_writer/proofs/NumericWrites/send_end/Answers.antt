-- `numeric_writer::NumericWrites::send_end` meets its contract. Assumes nothing.
use mathlib.Core.Path.{ap}
use native.Mathlib.Omega.{arith}
use lib.Dec.{lit≤, lit<}
use lib.ListN.{length}
use Rattle.text_sender.proofs.Ends.{nothing-sent}
use Rattle.codes.proofs.LowBits.{length-low}
use Rattle.numeric_writer.proofs.Sending.{end-space, end-nothing, space-sent}
use Rattle.numeric_writer.proofs.NumericWrites.send_end.Goals as goal

pub send-requires : goal.send-requires
send-requires c =
    let space = end-space c.args._text.now c.args.b.have c.requires.whole c.if-b-eq4.true in
    (c.requires.few, lit≤ tt, lit< tt, omega (arith, c.requires.room, ap length space, length-low 4 10))

pub returns-then-b-eq4 : goal.returns-then-b-eq4
returns-then-b-eq4 c =
    space-sent c.args.out.now c.send.new.out c.args.b c.send.result c.requires.few
    (end-space c.args._text.now c.args.b.have c.requires.whole c.if-b-eq4.true) c.send.ensures (omega arith) (omega arith)

pub returns : goal.returns
returns c = nothing-sent c.args.out.now c.args.b c.requires.few (end-nothing c.args._text.now c.args.b.have c.requires.whole c.if-b-eq4.false)
