-- `pseudo_binary_writer::put_data` meets its contract. The loop's invariant: the data is put so far that the announced values and our entries for the text
-- after them are still to come. Assumes nothing.
use Prim.Native.Nat.{◌+◌, ◌≤◌}
use lib.ListN.{length, take, drop}
use Rattle.codes.specs.Steps.Sending.{PutSoFar}
use Rattle.pseudo_binary.specs.Table.{values}
use Rattle.pseudo_binary.specs.Writer.{Alike, ours}
use Rattle.pseudo_binary_writer.proofs.Turn.{codes_from}
use Rattle.pseudo_binary_writer.proofs.put_data.Given as goal

abbrev pub invariant-loop-i : goal.invariant-loop-i
invariant-loop-i l = (l.i + l.announced ≤ length l.text) × Alike values (take l.announced (drop l.i l.text)) × PutSoFar (ours l.text) l.initial.out l.out l.b (codes_from l.text l.announced l.i)

-- the bits that are still to come
abbrev pub decreases-loop-i : goal.decreases-loop-i
decreases-loop-i l = length (codes_from l.text l.announced l.i)
