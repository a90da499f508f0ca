-- The constant table has the entries of all halves: one test of each is computed, four bit steps for it.
-- Assumes nothing.
use mathlib.Core.Path.{◌≡◌, refl}
use Rattle.bits.proofs.Listed.{wrong}
use Rattle.register.specs.declared.TheConstants.{HALVES}
use Rattle.register.specs.Register.{feedback, bit_step, bit_steps}
use Rattle.register.specs.Steps.Halves.{entry_of, entries}
use Rattle.register.proofs.Halves.{tested, all_right}

pub halves-right : HALVES ≡ entries
unfolding tested wrong entry_of bit_steps bit_step feedback
halves-right = all_right HALVES refl
