-- `pseudo_binary_reader::read_many` meets its contract. The loop's invariant: the next eight values are in the eight bytes from `first` on, and if the
-- first eight stood in a buffer before the loop, those up to `place` stand in it. Assumes nothing.
use mathlib.Core.Path.{◌≡◌}
use mathlib.Core.List.{List}
use Prim.Native.Nat.{ℕ, ◌+◌, ◌-◌, ◌*◌, ◌≤◌}
use lib.ListN.{length, drop}
use Rattle.bits.specs.Row.{bits}
use Rattle.codes.specs.Steps.Laid.{laid}
use Rattle.pseudo_binary_reader.specs.Steps.Taken.{characters_in}
use Rattle.pseudo_binary_reader.proofs.read_many.Given as goal

abbrev pub invariant-loop-place : goal.invariant-loop-place
invariant-loop-place l =
    (l.n + 8 ≤ l.place)
    × (l.place ≤ l.n + l.count)
    × (l.at + 6 * (l.place - l.n) + l.behind ≡ l.first * 8 + 16)
    × (l.behind ≤ 7)
    × ((entry : List ℕ) → length entry ≡ length l.initial.out → l.initial.out ≡ laid entry l.n (characters_in 8 (drop l.at (bits l.s)))
    → l.out ≡ laid entry l.n (characters_in (l.place - l.n) (drop l.at (bits l.s))))

abbrev pub decreases-loop-place : goal.decreases-loop-place
decreases-loop-place l = l.n + l.count - l.place
