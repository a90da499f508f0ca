-- `shef_reader::code_of` meets its contract. Assumes nothing.
use Rattle.std.proofs.Common.{arith}
use Rattle.shef_reader.proofs.Six.{characters-right, six-code}
use Rattle.shef_reader.proofs.code_of.Goals as goal

pub returns : goal.returns
returns c =
    let six = c.args.six in
    (c.width_of.ensures, λ w e. six-code six w _ (characters-right six c.requires) c.requires e c.width_of.ensures c.count_of.ensures (omega arith))
