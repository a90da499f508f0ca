-- `sections::divide` meets its contract.
-- Assumes nothing.
use Rattle.sections.proofs.Dividing.{Divided}
use Rattle.sections.proofs.divide.Given as goal

abbrev pub invariant-loop-k : goal.invariant-loop-k
invariant-loop-k l = Divided l.n l.initial.body l.k l.body
