-- `register::after` meets its contract. The loop's invariant: the bytes that are left take the register to that of all.
-- Assumes nothing.
use mathlib.Core.Path.{◌≡◌}
use lib.ListN.{length}
use Rattle.register.specs.Register.{start, checksum_from}
use Rattle.register.proofs.after.Given as goal

abbrev pub invariant-loop-parts : goal.invariant-loop-parts
invariant-loop-parts l = checksum_from l.moved l.rest ≡ checksum_from start l.«data»

abbrev pub decreases-loop-parts : goal.decreases-loop-parts
decreases-loop-parts l = length l.rest
