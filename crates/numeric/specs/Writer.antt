-- What our writer builds of a text in Compact Numeric ASCII: `written (ours text)` (001, 4.3).
-- Assumes nothing.
use Rattle.std.specs.Prelude.{Bool, false, not, cond, ◌&&◌, List, [], ◌∷◌, ◌++◌, ℕ, ◌%◌, eqb, length}
use Rattle.codes.specs.Chain.{Entry, codes}
use Rattle.codes.specs.Coded.{behind, CodedBelow}
use Rattle.codes.specs.LineEnds.{each_after, ended, line_ends}
use Rattle.codes.specs.Lookup.{found, saying, meaning}
use Rattle.numeric.specs.Table.{table}
use Rattle.numeric.specs.Translation.{specials, translation}

-- the entry that says what a character comes back as; none for LF right behind CR, whose line end is sent once
unfoldable pub own : ℕ → ℕ → List Entry
own before c = saying translation (ended before c)

-- the base characters that are sent for a text
unfoldable pub base_of : List ℕ → List ℕ
base_of text = codes (each_after own 0 text)

-- the character before is a base character that would make a sequence of Table 5 with the first that is sent for this one
unfoldable pub clashes : ℕ → List ℕ → Bool
clashes before [] = false
clashes before (b ∷ base) = found (meaning specials (before ∷ b ∷ []))

-- the character has a code where it stands: an entry says what it comes back as, and it does not clash with the one before it
unfoldable pub coded_behind : ℕ → ℕ → Bool
coded_behind before c = found (saying translation (ended 0 c)) && not (clashes before (codes (own before c)))

abbrev pub coded : List ℕ → ℕ → Bool
coded = behind coded_behind

-- each character of the text has a code
abbrev pub AllCoded : List ℕ → Type 0
AllCoded text = CodedBelow coded text (length text)

-- a space where the number of codes is odd
unfoldable pub evened : ℕ → List ℕ
evened n = cond (eqb (n % 2) 1) (32 ∷ []) []

-- what is sent for a text: its base characters, made even
unfoldable pub sent_for : List ℕ → List ℕ
sent_for text = base_of text ++ evened (length (base_of text))

-- in four bits each
unfoldable pub ours : List ℕ → List Entry
ours text = each_after (λ before c. saying table (c ∷ [])) 0 (sent_for text)

-- what a text comes back as: each line end as CR LF, and behind it the space
unfoldable pub comes_back : List ℕ → List ℕ
comes_back text = line_ends text ++ evened (length (base_of text))
