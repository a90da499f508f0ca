-- `bit_sender::joined` meets its contract. Assumes nothing.
use mathlib.Core.Path.{refl}
use native.Mathlib.Omega.{arith}
use Rattle.codes.proofs.JoinedCodes.{join}
use Rattle.bit_sender.proofs.joined.Goals as goal

pub returns : goal.returns
returns c =
    join c.args.first c.args.next c.requires.0 c.requires.1 refl (omega arith) (omega arith)
