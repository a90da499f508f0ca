-- `pseudo_binary_reader::read_most` meets its contract. The loop's invariant: if what was said before the loop stands in a buffer that was given, so does
-- what was said up to bit `at`. Assumes nothing.
use mathlib.Core.List.{List}
use Prim.Native.Nat.{ℕ, ◌-◌, ◌*◌, ◌≤◌}
use lib.ListN.{length}
use Rattle.bits.specs.Row.{bits}
use Rattle.codes.specs.Steps.Laid.{Readable}
use Rattle.pseudo_binary.specs.Table.{scheme}
use Rattle.pseudo_binary_reader.proofs.Steps.{Stands}
use Rattle.pseudo_binary_reader.proofs.read_most.Given as goal

abbrev pub invariant-loop-at : goal.invariant-loop-at
invariant-loop-at l =
    (l.at ≤ length l.s * 8)
    × ((entry : List ℕ) → Readable scheme (bits l.s) (length entry) → Stands l.s entry l.initial.out l.initial.at l.initial.n → Stands l.s entry l.out l.at l.n)

abbrev pub decreases-loop-at : goal.decreases-loop-at
decreases-loop-at l = length l.s * 8 - l.at
