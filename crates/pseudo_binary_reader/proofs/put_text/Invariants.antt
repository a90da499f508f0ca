-- `pseudo_binary_reader::put_text` meets its contract. The loop's invariant: eight bits or fewer are left, and if what was said before the loop stands
-- in a buffer that was given, so does what was said up to bit `at`. Assumes nothing.
use mathlib.Core.List.{List}
use Prim.Native.Nat.{ℕ, ◌+◌, ◌-◌, ◌*◌, ◌≤◌}
use lib.ListN.{length}
use Rattle.bits.specs.Row.{bits}
use Rattle.codes.specs.Steps.Laid.{Readable}
use Rattle.pseudo_binary.specs.Table.{scheme}
use Rattle.pseudo_binary_reader.proofs.Steps.{Stands}
use Rattle.pseudo_binary_reader.proofs.put_text.Given as goal

abbrev pub invariant-loop-b : goal.invariant-loop-b
invariant-loop-b l =
    (l.at ≤ length l.s * 8)
    × (length l.s * 8 ≤ l.at + 8)
    × ((entry : List ℕ) → Readable scheme (bits l.s) (length entry) → Stands l.s entry l.initial.out l.initial.at l.initial.n → Stands l.s entry l.out l.at l.n)

abbrev pub decreases-loop-b : goal.decreases-loop-b
decreases-loop-b l = length l.s * 8 - l.at
