-- `compact::next_code` meets its contract. Assumes nothing.
use Rattle.codes.proofs.TakenCodes.{no_code}
use Rattle.compact.proofs.next_code.Goals as goal

pub returns-then-have-code-clause-none : goal.returns-then-have-code-clause-none
returns-then-have-code-clause-none g c =
    no_code g.T.Table.laws.laws c.args.held c.args.have c.window.result c.in_ok-code.code c.window.ensures c.in_ok-code.ensures.code c.if-have-code.true
