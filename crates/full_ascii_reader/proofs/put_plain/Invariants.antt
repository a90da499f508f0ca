-- `full_ascii_reader::put_plain` meets its contract. The loop's invariant: the codes that were passed leave the lowest `left` bits, which stand at the top
-- of the word, and their text is laid. Assumes nothing.
use mathlib.Core.Path.{◌≡◌}
use Prim.Native.Nat.{◌+◌, ◌-◌, ◌*◌, ◌%◌, ◌^◌, ◌≤◌}
use Rattle.codes.specs.Pack.{low}
use Rattle.codes.specs.Steps.Passed.{LaidSoFar}
use Rattle.full_ascii.specs.Table.{scheme}
use Rattle.full_ascii_reader.proofs.put_plain.Given as goal

abbrev pub invariant-loop-k : goal.invariant-loop-k
invariant-loop-k l = record {
  most : l.left + 6 * l.k ≤ l.have;
  least : l.have ≤ l.left + 7 * l.k;
  top : l.top ≡ l.held * 2 ^ (64 - l.left) % 2 ^ 64;
  laid : LaidSoFar scheme (low l.have l.held) (low l.left l.held) l.initial.out l.out l.n (l.n + l.k);
}
