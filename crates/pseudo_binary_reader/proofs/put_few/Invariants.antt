-- `pseudo_binary_reader::put_few` meets its contract. The loop's invariant: the characters of `done` values are laid, and the others are at the top of
-- what is left. Assumes nothing.
use mathlib.Core.Path.{◌≡◌}
use mathlib.Core.List.{List}
use Prim.Native.Nat.{ℕ, ◌^◌, ◌≤◌, ◌<◌}
use lib.ListN.{length}
use Rattle.codes.specs.Steps.Laid.{laid}
use Rattle.pseudo_binary_reader.specs.Steps.Taken.{Eight, characters_in}
use Rattle.pseudo_binary_reader.proofs.Taking.{Left}
use Rattle.pseudo_binary_reader.proofs.put_few.Given as goal

abbrev pub invariant-loop-done : goal.invariant-loop-done
invariant-loop-done l =
    (l.done ≤ l.count)
    × (l.left < 2 ^ 64)
    × (length l.out ≡ length l.initial.out)
    × ((bs : List ℕ) → Eight bs l.word → Left bs l.done l.left × (l.out ≡ laid l.initial.out l.n (characters_in l.done bs)))
