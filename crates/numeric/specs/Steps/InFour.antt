-- What goes for a text in bits: each base character in four.
-- Assumes nothing.
use Rattle.std.specs.Prelude.{List, ◌∷◌, [], ◌++◌, ℕ, length, take, drop}
use Rattle.codes.specs.Chain.{codes}
use Rattle.codes.specs.Coded.{last_of}
use Rattle.codes.specs.LineEnds.{each_after}
use Rattle.codes.specs.Lookup.{saying}
use Rattle.numeric.specs.Table.{table}
use Rattle.numeric.specs.Writer.{own, base_of, evened}

-- base characters in four bits each
unfoldable pub in_four : List ℕ → List ℕ
in_four base = codes (each_after (λ before c. saying table (c ∷ [])) 0 base)

-- the bits of a character that comes after another
unfoldable pub bits_for : ℕ → ℕ → List ℕ
bits_for before c = in_four (codes (own before c))

-- the bits of a text from a place on, and those of the space behind it where there is one
unfoldable pub bits_from : List ℕ → ℕ → List ℕ
bits_from text i = in_four (codes (each_after own (last_of (take i text)) (drop i text))) ++ in_four (evened (length (base_of text)))
