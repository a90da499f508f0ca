-- `formats::all_coded_in`: whether the characters that were passed have codes.
-- Assumes nothing.
use Rattle.bits.specs.Says.{Says}
use Rattle.codes.specs.Coded.{CodedBelow}
use Rattle.formats.specs.Data.{coded}
use Rattle.formats.proofs.all_coded_in.Given as goal

abbrev pub invariant-loop-i : goal.invariant-loop-i
invariant-loop-i l = Says l.all (CodedBelow (coded l.format) l.text l.i)
