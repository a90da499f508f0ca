-- `bit_buffer::at_end` meets its contract. Assumes nothing.
use native.Mathlib.Omega.{arith}
use Rattle.bits.proofs.Said.{says-equal}
use Rattle.codes.proofs.LowBits.{length-low}
use Rattle.codes.proofs.BitBuffer.{window-fill, fill-window}
use Rattle.bit_buffer.proofs.at_end.Goals as goal

pub returns-then-have-gt7 : goal.returns-then-have-gt7
returns-then-have-gt7 c f = omega (arith, f.few, length-low c.args.have c.args.held)

pub returns : goal.returns
returns c =
    says-equal c.window.result 511 _ (window-fill c.args.held c.args.have c.window.result c.window.ensures (omega arith))
    (fill-window c.args.held c.args.have c.window.result c.window.ensures)
