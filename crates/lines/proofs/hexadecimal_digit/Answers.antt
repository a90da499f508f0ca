-- `lines::hexadecimal_digit` meets its contract.
-- Assumes nothing.
use native.Mathlib.Omega.{arith}
use Rattle.lines.proofs.Decimal.{hexadecimal-small, hexadecimal-large}
use Rattle.lines.proofs.hexadecimal_digit.Goals as goal

pub returns-then-digit-lt10 : goal.returns-then-digit-lt10
returns-then-digit-lt10 c = omega (arith, hexadecimal-small c.args.digit (omega arith))

pub returns : goal.returns
returns c = omega (arith, hexadecimal-large c.args.digit (omega arith))
