-- What the loops of text_sender ask of Compact SHEF: how many bits our codes of a text have, character by character, and how few they can be.
-- Nothing here needs belief. Assumes nothing.
use mathlib.Core.Path.{◌≡◌, refl}
use native.Mathlib.Omega.{arith}
use mathlib.Core.List.{List}
use Prim.Native.Nat.{ℕ, ◌*◌, ◌≤◌}
use lib.Dec.{lit≤}
use lib.ListN.{length}
use Rattle.bits.specs.First.{first}
use Rattle.bits.specs.Numbers.{numbers}
use Rattle.bits.specs.Word.{bit}
use Rattle.codes.specs.Chain.{codes}
use Rattle.codes.specs.Consecutive.{code_for, consecutive}
use Rattle.codes.specs.Lookup.{same, saying}
use Rattle.codes.specs.Pack.{low}
use Rattle.codes.specs.Steps.Summed.{sum_after}
use Rattle.codes.proofs.EachAfter.{each-length}
use Rattle.codes.proofs.EveryElement.{every}
use Rattle.codes.proofs.FoundEntries.{long}
use Rattle.codes.proofs.LineEnds.{least-each}
use Rattle.numeric.specs.Table.{characters}
use Rattle.shef.specs.Table.{table}
use Rattle.shef.specs.Writer.{coded, AllCoded, own, ours}
use Rattle.shef_writer.specs.Steps.Sending.{codes_from, bits_for}
use Rattle.codes.specs.Coded.{alone, last_of}
use Rattle.codes.proofs.BitsInBytes.{length-written}
use Rattle.shef.proofs.Writer.{writer-laws}
use Rattle.text_sender.specs.Steps.Writes.{WriteLaws}

-- those of a text
pub bits-whole : (t : List ℕ) → length (codes (ours t)) ≡ sum_after bits_for 0 t
unfolding ours
bits-whole t = each-length own 0 t

pub least-bits : (t : List ℕ) → AllCoded t → 3 * length t ≤ length (codes (ours t))
unfolding table consecutive code_for characters numbers low bit same saying codes every long ours own coded first
least-bits t h = least-each table 3 tt (lit≤ tt) t h

pub write-laws : WriteLaws (alone coded) ours codes_from bits_for 1 6
unfolding ours last_of
write-laws = record {
  binary = writer-laws.ours-binary;
  begins = λ t. refl;
  size = λ t. omega (arith, length-written (ours t), bits-whole t);
  least = λ t h. omega (arith, bits-whole t, least-bits t h);
  small = lit≤ tt;
  some = lit≤ tt;
}
