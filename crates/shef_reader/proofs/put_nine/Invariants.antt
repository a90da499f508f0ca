-- `shef_reader::put_nine` meets its contract. The loop's invariant: the codes that were passed leave the lowest `left` bits, which stand at the top
-- of the word, and their text is laid. Assumes nothing.
use Rattle.std.proofs.Common.{◌≡◌, ◌+◌, ◌-◌, ◌*◌, ◌%◌, ◌^◌, ◌≤◌}
use Rattle.codes.specs.Pack.{low}
use Rattle.codes.specs.Steps.Passed.{LaidSoFar}
use Rattle.shef.specs.Table.{scheme}
use Rattle.shef_reader.proofs.put_nine.Given as goal

abbrev pub invariant-loop : goal.invariant-loop
invariant-loop l = record {
  most : l.left + 5 * l.counter ≤ l.have;
  least : l.have ≤ l.left + 6 * l.counter;
  few : l.count ≤ 2 * l.counter;
  top : l.top ≡ l.held * 2 ^ (64 - l.left) % 2 ^ 64;
  laid : LaidSoFar scheme (low l.have l.held) (low l.left l.held) l.initial.out l.out l.n (l.n + l.count);
}
