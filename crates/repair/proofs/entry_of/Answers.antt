-- `repair::entry_of` meets its contract: the constant table is the rule's.
-- Assumes nothing.
use mathlib.Core.List.{List}
use mathlib.Core.Path.{ap}
use Prim.Native.Nat.{ℕ}
use lib.ListN.{get_or}
use Rattle.repair.proofs.Rule.{rule}
use Rattle.repair.proofs.entry_of.Goals as goal

pub returns : goal.returns
returns c = ap (λ (table : List ℕ). get_or table c.args.difference 0) rule.each
