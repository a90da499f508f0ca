-- `register::bit_step` meets its contract: each branch is one of the two cases of a step.
-- Assumes nothing.
use mathlib.Core.Path.{sym}
use borrow.Author.Rules.{rules}
use native.Mathlib.Omega.{arith}
use Rattle.register.proofs.Register.{bit-low, bit_high}
use Rattle.register.specs.Register.{feedback}
use Rattle.register.proofs.bit_step.Goals as goal

pub returns-then-register-lt32768 : goal.returns-then-register-lt32768
returns-then-register-lt32768 c = omega (arith, bit-low c.args.register c.if-register-lt32768.true)

pub returns-else-register-lt32768 : goal.returns-else-register-lt32768
unfolding feedback
returns-else-register-lt32768 c = sym (bit_high c.args.register c.if-register-lt32768.false (search rules))
