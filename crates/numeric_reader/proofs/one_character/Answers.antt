-- `numeric_reader::one_character` meets its contract. Assumes nothing.
use mathlib.Core.Path.{sym}
use native.Mathlib.Omega.{arith}
use Rattle.numeric_reader.proofs.Pairs.{pair-minus, pair-equals, pair-stop}
use Rattle.numeric_reader.proofs.one_character.Goals as goal

pub returns-then-one-ge2 : goal.returns-then-one-ge2
returns-then-one-ge2 c = sym (pair-stop _ _ (omega arith) (omega arith))

pub returns-then-other-lt4 : goal.returns-then-other-lt4
returns-then-other-lt4 c = sym (pair-minus _ _ (omega arith) (omega arith))

pub returns-else-other-lt4 : goal.returns-else-other-lt4
returns-else-other-lt4 c = sym (pair-equals _ _ (omega arith) (omega arith))
