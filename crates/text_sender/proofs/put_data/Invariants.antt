-- `text_sender::put_data` meets its contract. The loop's invariant: the data is put so far that the bits of the rest of the text are still to come.
-- Assumes nothing.
use Prim.Native.Nat.{◌-◌, ◌≤◌}
use lib.ListN.{length}
use Rattle.codes.specs.Steps.Sending.{PutSoFar}
use Rattle.text_sender.proofs.put_data.Given as goal

abbrev pub invariant-loop-i : goal.invariant-loop-i
invariant-loop-i g l =
    let f = g.F.Writes in
    (l.i ≤ length l.text) × PutSoFar (f.ours l.text) l.initial.out l.out l.b (f.bits_from l.text l.i)

abbrev pub decreases-loop-i : goal.decreases-loop-i
decreases-loop-i g l = length l.text - l.i
