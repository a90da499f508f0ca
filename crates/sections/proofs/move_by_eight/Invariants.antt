-- `sections::move_by_eight` meets its contract.
-- Assumes nothing.
use mathlib.Core.Path.{◌≡◌}
use Prim.Native.Nat.{◌%◌, ◌≤◌}
use Rattle.sections.specs.Steps.Moved.{moved_up}
use Rattle.sections.proofs.move_by_eight.Given as goal

abbrev pub invariant-loop-left : goal.invariant-loop-left
invariant-loop-left l = (l.left ≤ l.count) × (l.left % 8 ≡ l.count % 8) × (l.body ≡ moved_up l.initial.body l.from l.to l.count l.left)

abbrev pub decreases-loop-left : goal.decreases-loop-left
decreases-loop-left l = l.left
