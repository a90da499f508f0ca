-- `register::side_by_side` meets its contract. The loop's invariant: so many bytes of each part have passed.
-- Assumes nothing.
use Rattle.register.specs.Steps.Parts.{SideBySide}
use Rattle.register.proofs.side_by_side.Given as goal

abbrev pub invariant-loop-k : goal.invariant-loop-k
invariant-loop-k l = SideBySide l.k l.register l.«data» 0 l.parts
