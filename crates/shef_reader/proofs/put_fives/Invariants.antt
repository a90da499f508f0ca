-- `shef_reader::put_fives` meets its contract. The loop's invariant: the codes that were passed leave the lowest bits, which stand at the top of the word,
-- and their text is laid. Assumes nothing.
use Rattle.std.proofs.Common.{◌≡◌, ◌+◌, ◌-◌, ◌*◌, ◌%◌, ◌^◌}
use Rattle.codes.specs.Pack.{low}
use Rattle.codes.specs.Steps.Passed.{LaidSoFar}
use Rattle.shef.specs.Table.{scheme}
use Rattle.shef_reader.proofs.put_fives.Given as goal

abbrev pub invariant-loop-k : goal.invariant-loop-k
invariant-loop-k l = record {
  top : l.top ≡ l.held * 2 ^ (64 - (l.have - 5 * l.k)) % 2 ^ 64;
  laid : LaidSoFar scheme (low l.have l.held) (low (l.have - 5 * l.k) l.held) l.initial.out l.out l.n (l.n + l.k);
}
