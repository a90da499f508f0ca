-- `text_sender::code_units` meets its contract. The loop's invariant: the units so far and those of the rest are those of the text.
-- Assumes nothing.
use mathlib.Core.Path.{◌≡◌}
use Prim.Native.Nat.{◌+◌, ◌-◌, ◌*◌, ◌≤◌}
use lib.ListN.{length, drop, get_or}
use Rattle.codes.specs.Steps.Summed.{sum_after}
use Rattle.text_sender.proofs.code_units.Given as goal

abbrev pub invariant-loop-i : goal.invariant-loop-i
invariant-loop-i g l =
    let number = g.F.Writes.units_for in
    (1 ≤ l.i) × (l.i ≤ length l.text) × (l.n ≤ 9 * l.i) × (l.n + sum_after number (get_or l.text (l.i - 1) 0) (drop l.i l.text) ≡ sum_after number 0 l.text)

abbrev pub decreases-loop-i : goal.decreases-loop-i
decreases-loop-i g l = length l.text - l.i
