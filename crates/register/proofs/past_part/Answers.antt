-- `register::past_part` meets its contract.
-- Assumes nothing.
use borrow.Author.Rules.{rules}
use Rattle.register.proofs.Together.{leaps-by-steps}
use Rattle.register.proofs.past_part.Goals as goal

pub returns : goal.returns
returns c =
    leaps-by-steps c.args.register (search rules) c.bit_step-once.ensures c.byte_step-far.ensures
    c.bit_step.ensures c.bit_step-2.ensures c.bit_step-3.ensures
