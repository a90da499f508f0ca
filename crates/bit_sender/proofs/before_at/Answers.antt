-- `bit_sender::before_at` meets its contract. Assumes nothing.
use mathlib.Core.Path.{sym}
use native.Mathlib.Omega.{arith}
use borrow.Author.Rules.{rules}
use Rattle.codes.specs.Coded.{last_of}
use Rattle.codes.proofs.EachAfter.{last_taken}
use Rattle.bit_sender.proofs.before_at.Goals as goal

pub returns-then-i-eq0 : goal.returns-then-i-eq0
unfolding last_of
returns-then-i-eq0 c = search rules

pub returns : goal.returns
returns c =
    sym (last_taken c.args.text.now c.args.i (omega arith) c.requires)
