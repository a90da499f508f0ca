-- `formats::first_uncoded`: the characters that were passed have codes.
-- Assumes nothing.
use Rattle.codes.specs.Coded.{CodedBelow}
use Rattle.formats.specs.Data.{coded}
use Rattle.formats.proofs.first_uncoded.Given as goal

abbrev pub invariant-loop-i : goal.invariant-loop-i
invariant-loop-i l = CodedBelow (coded l.format) l.text l.i
