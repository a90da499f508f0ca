-- `text_sender::block_units` meets its contract. The loop's invariant: the units up to the place. Assumes nothing.
use Prim.Native.Nat.{◌-◌, ◌*◌, ◌≤◌}
use Rattle.codes.specs.Steps.Summed.{SumUpTo}
use Rattle.text_sender.proofs.block_units.Given as goal

abbrev pub invariant-loop-i : goal.invariant-loop-i
invariant-loop-i g l = (l.n ≤ 9 * (l.i - l.from)) × SumUpTo g.F.Writes.units_for l.text l.from l.i l.n
