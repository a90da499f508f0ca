-- `full_ascii_writer::FullAsciiWrites::send_end` meets its contract. Assumes nothing.
use native.Mathlib.Omega.{arith}
use lib.ListN.{length}
use Rattle.full_ascii_writer.proofs.Sending.{codes-end}
use Rattle.text_sender.proofs.Ends.{nothing-sent}
use Rattle.full_ascii_writer.proofs.FullAsciiWrites.send_end.Goals as goal

pub returns : goal.returns
returns c =
    let t = c.args._text.now in
    nothing-sent c.args._out.now c.args.b c.requires.few (codes-end t (length t) (omega arith))
