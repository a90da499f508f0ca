-- The constant table has the repair rule: one test of every entry is computed.
-- Assumes nothing.
use mathlib.Core.Path.{refl}
use Rattle.bits.specs.First.{first}
use Rattle.bits.specs.Turnings.{chosen, turnings, mask_of}
use Rattle.header.specs.Check.{generator, remainder}
use Rattle.distance.specs.Steps.Left.{left}
use Rattle.repair.specs.declared.differences.TheConstants.{ENTRIES}
use Rattle.repair.specs.Table.{leavings, entry_for, nothing, entry_of, entry_in, how_many, HasRule}
use Rattle.repair.proofs.Entries.{wrong, tested, has-rule}

pub rule : HasRule ENTRIES
unfolding leavings entry_for nothing entry_of entry_in how_many wrong tested first chosen turnings mask_of left remainder generator
rule = has-rule ENTRIES refl
