-- `full_ascii_reader::skim_plain` meets its contract. The loop's invariant: the codes that were passed leave the lowest `left` bits, which stand at the
-- top of the word. Assumes nothing.
use mathlib.Core.Path.{◌≡◌}
use Prim.Native.Nat.{◌+◌, ◌-◌, ◌*◌, ◌%◌, ◌^◌, ◌≤◌}
use Rattle.codes.specs.Pack.{low}
use Rattle.codes.specs.Steps.Passed.{CountedSoFar}
use Rattle.full_ascii.specs.Table.{scheme}
use Rattle.full_ascii_reader.proofs.skim_plain.Given as goal

abbrev pub invariant-loop : goal.invariant-loop
invariant-loop l = record {
  most : l.left + 6 * l.counter ≤ l.have;
  least : l.have ≤ l.left + 7 * l.counter;
  taken : l.codes ≡ l.counter;
  said : l.count ≡ l.counter;
  top : l.top ≡ l.held * 2 ^ (64 - l.left) % 2 ^ 64;
  passed : CountedSoFar scheme (low l.have l.held) (low l.left l.held) l.counter l.counter;
}
