-- `shef_writer::ShefWrites::send_end` meets its contract. Assumes nothing.
use native.Mathlib.Omega.{arith}
use lib.ListN.{length}
use Rattle.codes.proofs.EachAfter.{each-end}
use Rattle.shef.specs.Writer.{own}
use Rattle.text_sender.proofs.Ends.{nothing-sent}
use Rattle.shef_writer.proofs.ShefWrites.send_end.Goals as goal

pub returns : goal.returns
returns c =
    let t = c.args._text.now in
    nothing-sent c.args._out.now c.args.b c.requires.few (each-end own t (length t) (omega arith))
