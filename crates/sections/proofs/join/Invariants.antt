-- `sections::join` meets its contract.
-- Assumes nothing.
use mathlib.Core.List.{◌++◌}
use mathlib.Core.Path.{◌≡◌}
use Prim.Native.Nat.{◌*◌, min}
use lib.ListN.{length, drop}
use Rattle.sections.specs.Sections.{in_turn, section_in}
use Rattle.sections.proofs.join.Given as goal

abbrev pub invariant-loop-k : goal.invariant-loop-k
invariant-loop-k l = record {
  long : length l.out ≡ length l.initial.out;
  put : l.out ≡ in_turn (section_in l.n l.came) l.k ++ drop (min l.n (l.k * 4000)) l.initial.out;
}
