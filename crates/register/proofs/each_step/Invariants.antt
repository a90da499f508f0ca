-- `register::each_step` meets its contract. The loop's invariant: the bytes that are left take the register to that of all.
-- Assumes nothing.
use mathlib.Core.Path.{◌≡◌}
use lib.ListN.{drop}
use Rattle.register.specs.Register.{checksum_from}
use Rattle.register.proofs.each_step.Given as goal

abbrev pub invariant-loop-byte : goal.invariant-loop-byte
invariant-loop-byte l = checksum_from l.moved (drop l.byte-index l.«data») ≡ checksum_from l.register l.«data»
