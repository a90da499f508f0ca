-- `shef_reader::skim_nine` meets its contract. The loop's invariant: the lowest `left` bits stand at the top of the word, and, where the count shows no six
-- ones, they are what the codes that were passed leave. Assumes nothing.
use Rattle.std.proofs.Common.{◌≡◌, ◌+◌, ◌-◌, ◌*◌, ◌%◌, ◌^◌, ◌≤◌}
use Rattle.codes.specs.Pack.{low}
use Rattle.codes.specs.Steps.Passed.{CountedSoFar}
use Rattle.shef.specs.Table.{scheme}
use Rattle.shef_reader.proofs.skim_nine.Given as goal

abbrev pub invariant-loop : goal.invariant-loop
invariant-loop l = record {
  most : l.left + 5 * l.counter ≤ l.have;
  least : l.have ≤ l.left + 6 * l.counter;
  count : l.count ≤ 19 * l.counter;
  taken : l.codes ≡ l.counter;
  top : l.top ≡ l.held * 2 ^ (64 - l.left) % 2 ^ 64;
  few : l.count ≤ 18 → l.count ≤ 2 * l.counter;
  passed : l.count ≤ 18 → CountedSoFar scheme (low l.have l.held) (low l.left l.held) l.count l.counter;
}
