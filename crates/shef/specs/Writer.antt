-- What our writer builds of a text in Compact SHEF: `written (ours text)` (001, 4.4).
-- Assumes nothing.
use Rattle.std.specs.Prelude.{Bool, List, ℕ, length}
use Rattle.codes.specs.Chain.{Entry}
use Rattle.codes.specs.Coded.{alone, CodedBelow}
use Rattle.codes.specs.LineEnds.{each_after, ended, line_ends}
use Rattle.codes.specs.Lookup.{found, saying}
use Rattle.shef.specs.Table.{table}

-- the character has a code: an entry of the table says what it comes back as. No space stands in for one that has none, and no letter for another
unfoldable pub coded : ℕ → Bool
coded c = found (saying table (ended 0 c))

-- each character of the text has a code
abbrev pub AllCoded : List ℕ → Type 0
AllCoded text = CodedBelow (alone coded) text (length text)

-- the entry that says what a character comes back as; none for LF right behind CR, whose line end has one code
unfoldable pub own : ℕ → ℕ → List Entry
own before c = saying table (ended before c)

unfoldable pub ours : List ℕ → List Entry
ours = each_after own 0

-- what a text comes back as: each line end as CR LF
abbrev pub comes_back : List ℕ → List ℕ
comes_back = line_ends
