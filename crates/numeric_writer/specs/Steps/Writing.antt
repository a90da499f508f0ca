-- What the loops of text_sender ask of Compact Numeric: how many bits go for a text, character by character, and how few they can be.
-- Nothing here needs belief. Assumes nothing.
use mathlib.Core.Path.{◌≡◌}
use mathlib.Core.List.{List}
use Prim.Native.Nat.{ℕ, ◌≤◌}
use native.Mathlib.Omega.{arith}
use lib.Dec.{T, lit≤}
use lib.ListN.{length, get_or}
use Rattle.bits.specs.First.{first}
use Rattle.bits.specs.Numbers.{numbers}
use Rattle.codes.specs.Chain.{codes}
use Rattle.codes.specs.Coded.{alone, CodedBelow}
use Rattle.codes.specs.Lookup.{same, saying}
use Rattle.codes.specs.Steps.Summed.{sum_after}
use Rattle.bits.proofs.Said.{and_left}
use Rattle.codes.proofs.EachAfter.{each-length}
use Rattle.codes.proofs.EveryElement.{every}
use Rattle.codes.proofs.FoundEntries.{long}
use Rattle.codes.proofs.LineEnds.{least-each}
use Rattle.numeric.specs.Table.{characters}
use Rattle.numeric.specs.Translation.{sent, itself, specials, translation}
use Rattle.numeric.specs.Writer.{own, base_of, coded_behind, coded, AllCoded, ours}
use Rattle.numeric.specs.Steps.InFour.{bits_from}
use Rattle.numeric.proofs.InFour.{ours-binary, ours-bits, data-length}
use Rattle.text_sender.specs.Steps.Writes.{WriteLaws}
use Rattle.numeric_writer.specs.Steps.Sending.{stands, codes_for}

-- ---- a character that has a code stands in one of the tables

pub coded-stands : (before c : ℕ) → T (coded_behind before c) → T (stands c)
unfolding coded_behind
coded-stands before c t = and_left (stands c) _ t

pub all-stand : (text : List ℕ) → AllCoded text → CodedBelow (alone stands) text (length text)
all-stand text h i l = coded-stands _ (get_or text i 0) (h i l)

-- ---- those of a text

pub base_sum : (text : List ℕ) → length (base_of text) ≡ sum_after codes_for 0 text
unfolding base_of
base_sum text = each-length own 0 text

-- one a character or more
pub least-codes : (text : List ℕ) → AllCoded text → length text ≤ length (base_of text)
unfolding translation itself specials sent characters numbers same saying codes every long own base_of first
least-codes text h = omega (arith, least-each translation 1 tt (lit≤ tt) text (all-stand text h))

pub write-laws : WriteLaws coded ours bits_from codes_for 4 8
write-laws = record {
  binary = λ t h. ours-binary t;
  begins = ours-bits;
  size = λ t. omega (arith, data-length t, base_sum t);
  least = λ t h. omega (arith, least-codes t h, base_sum t);
  small = lit≤ tt;
  some = lit≤ tt;
}
