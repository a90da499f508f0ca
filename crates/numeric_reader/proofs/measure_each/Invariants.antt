-- `numeric_reader::measure_each` meets its contract. The loop's invariant: the codes of the bytes before the place are passed, and `saved` is what their
-- text is shorter by than two characters a byte.
-- Assumes nothing.
use mathlib.Core.Path.{◌≡◌}
use Prim.Native.Nat.{◌*◌}
use Rattle.numeric_reader.proofs.Passing.{BytesPassed}
use Rattle.numeric_reader.proofs.measure_each.Given as goal

abbrev pub invariant-loop-byte : goal.invariant-loop-byte
invariant-loop-byte l = record {
  passed : BytesPassed l.s l.byte-index l.saved l.before;
  taken : l.codes ≡ 2 * l.byte-index;
}
