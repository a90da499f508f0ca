-- `pseudo_binary_reader::read_last` meets its contract. The loop's invariant: the characters of `done` values are laid.
-- Assumes nothing.
use mathlib.Core.Path.{◌≡◌}
use Prim.Native.Nat.{◌≤◌}
use lib.ListN.{drop}
use Rattle.bits.specs.Row.{bits}
use Rattle.codes.specs.Steps.Laid.{laid}
use Rattle.pseudo_binary_reader.specs.Steps.Taken.{characters_in}
use Rattle.pseudo_binary_reader.proofs.read_last.Given as goal

abbrev pub invariant-loop-done : goal.invariant-loop-done
invariant-loop-done l = (l.done ≤ l.count) × (l.out ≡ laid l.initial.out l.n (characters_in l.done (drop l.at (bits l.s))))
