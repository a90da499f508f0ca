-- `numeric_reader::put_text` meets its contract. The loop's invariant: the text of the codes of the bytes before the place is put.
-- Assumes nothing.
use mathlib.Core.Path.{◌≡◌}
use Prim.Native.Nat.{◌/◌, ◌%◌}
use lib.ListN.{drop}
use Rattle.numeric.specs.Steps.Text.{spelled, text_of}
use Rattle.numeric_reader.specs.Steps.Reached.{Put}
use Rattle.numeric_reader.proofs.put_text.Given as goal

abbrev pub invariant-loop-byte : goal.invariant-loop-byte
invariant-loop-byte l = record {
  held : l.place.before / 8 ≡ 1;
  put : Put (text_of l.s) (spelled (drop l.byte-index l.s)) l.initial.out l.out (l.place.before % 8) l.place.n;
}
