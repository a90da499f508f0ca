-- `writer::put_packet` meets its contract.
-- Assumes nothing.
use Prim.Native.Nat.{◌+◌, ◌-◌}
use native.Mathlib.Omega.{arith}
use Rattle.writer.proofs.InPlace.{packet-there}
use Rattle.writer.proofs.put_packet.Goals as goal

pub returns : goal.returns
returns c =
    let f = c in
    let d = f in
    let a = d in
    packet-there a.args.format a.args.sync a.args.text.now a.args.packet.now d.put_data.new.out (a.args.n + 4 - 4) a.args.n
    d.put_data.result (omega arith) a.requires.1 a.requires.3 d.put_data.ensures _ f.put_frame.ensures
