-- `numeric_reader::fewer` meets its contract. Assumes nothing.
use mathlib.Core.Path.{ap}
use native.Mathlib.Omega.{arith}
use lib.ListN.{length}
use Rattle.numeric_reader.proofs.Pairs.{pair-few, pair-number, pair_line}
use Rattle.numeric_reader.proofs.fewer.Goals as goal

pub returns-then-one-lt4 : goal.returns-then-one-lt4
returns-then-one-lt4 c = let a = c.args in omega (arith, pair-few a.one a.other (omega arith))

pub returns-then-other-lt4 : goal.returns-then-other-lt4
returns-then-other-lt4 c =
    let a = c.args in
    omega (arith, ap length (pair-number a.one a.other (omega arith) (omega arith)))

pub returns : goal.returns
returns c =
    let a = c.args in
    omega (arith, ap length (pair_line a.one a.other (omega arith) (omega arith)))
