-- `text_sender::coded_length` meets its contract. Assumes nothing.
use Prim.Native.Nat.{◌*◌}
use native.Mathlib.Omega.{arith}
use lib.ListN.{length}
use Rattle.text_sender.proofs.Ends.{too-long}
use Rattle.text_sender.proofs.coded_length.Goals as goal

pub returns-then-room-FEWEST : goal.returns-then-room-FEWEST
returns-then-room-FEWEST g c =
    let f = g.F.Writes in
    let t = c.args.text.now in
    (c.requires, omega (arith, too-long (c.args.most * 8 * 2) f.FEWEST (length t) f.laws.some (rw (← c.FEWEST.ensures) c.if-room-FEWEST.true), f.laws.least t c.requires, f.laws.size t))
