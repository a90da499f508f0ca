-- `bit_buffer::push` meets its contract. Assumes nothing.
use native.Mathlib.Omega.{arith}
use Rattle.codes.proofs.PushedBits.{pushed}
use Rattle.bit_buffer.proofs.push.Goals as goal

pub returns : goal.returns
returns c n h = pushed c.args.held c.args.bits c.args.width n _ c.requires.0 c.requires.1 h (omega arith)
