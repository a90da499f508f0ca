-- `numeric_reader::measure` meets its contract. The loop's invariant: the codes of the bytes before i are passed, and `saved` is what their text is shorter
-- by than two characters a byte. Assumes nothing.
use mathlib.Core.Path.{◌≡◌}
use Prim.Native.Nat.{◌-◌, ◌*◌, ◌≤◌}
use lib.ListN.{length, get_or, drop}
use Rattle.numeric.specs.Steps.Text.{spelled, text_of}
use Rattle.numeric_reader.specs.Steps.Reached.{Reached}
use Rattle.numeric_reader.specs.Steps.Signs.{sign_after}
use Rattle.numeric_reader.proofs.measure.Given as goal

abbrev pub invariant-loop-i : goal.invariant-loop-i
invariant-loop-i l = (1 ≤ l.i) × (l.i ≤ length l.s) × (l.codes ≡ l.i * 2) × (l.saved ≤ l.i * 2) × Reached (text_of l.s) (spelled (drop l.i l.s)) (sign_after (get_or l.s (l.i - 1) 0)) (l.i * 2 - l.saved)

abbrev pub decreases-loop-i : goal.decreases-loop-i
decreases-loop-i l = length l.s - l.i
