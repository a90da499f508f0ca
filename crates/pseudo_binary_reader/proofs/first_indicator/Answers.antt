-- `pseudo_binary_reader::first_indicator` meets its contract. Assumes nothing.
use Rattle.pseudo_binary_reader.proofs.First.{takes-values, takes-spaces, takes-slashes}
use native.Mathlib.Omega.{arith}
use Rattle.pseudo_binary_reader.proofs.first_indicator.Goals as goal

pub returns-then-w-ge256 : goal.returns-then-w-ge256
returns-then-w-ge256 c = takes-values c.args.w c.requires c.if-w-ge256.true

pub returns-then-w-lt128 : goal.returns-then-w-lt128
returns-then-w-lt128 c = takes-spaces c.args.w c.if-w-lt128.true (omega arith)

pub returns : goal.returns
returns c = takes-slashes c.args.w c.if-w-lt128.false c.if-w-ge256.false (omega arith)
