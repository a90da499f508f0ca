-- Special character translation of Compact Numeric ASCII (001, 4.3, Table 5): some characters go as two of Table 4's. A step between texts: the text, and
-- the base characters that are sent for it.
-- Assumes nothing.
use Rattle.std.specs.Prelude.{cond, List, [], ◌∷◌, ◌++◌, map, ◌≡◌, ℕ}
use Rattle.codes.specs.Chain.{Entry, single, Row, codes, texts}
use Rattle.codes.specs.LineEnds.{LF, CR}
use Rattle.codes.specs.Lookup.{found, meaning}
use Rattle.numeric.specs.Table.{characters}

-- base characters, here as the code, and the text that they say
unfoldable pub sent : List ℕ → List ℕ → Entry
sent base text = record { code = base; says = text; announces = 0 }

-- a character of Table 4 goes as itself
unfoldable pub itself : ℕ → Entry
itself c = sent (c ∷ []) (c ∷ [])

-- Table 5: CR LF as ++, # as +-, = as -+, : as .., E as --
unfoldable pub specials : List Entry
specials =
    sent (43 ∷ 43 ∷ []) (CR ∷ LF ∷ []) ∷ sent (43 ∷ 45 ∷ []) (35 ∷ []) ∷ sent (45 ∷ 43 ∷ []) (61 ∷ []) ∷ sent (46 ∷ 46 ∷ []) (58 ∷ [])
    ∷ sent (45 ∷ 45 ∷ []) (69 ∷ []) ∷ []

-- both tables
unfoldable pub translation : List Entry
translation = map itself characters ++ specials

-- a base character that stands alone makes no sequence of Table 5 with the one that follows: the two would be read as one
abbrev pub Apart : List ℕ → List ℕ → Type 0
Apart [] rest = Unit
Apart (a ∷ []) [] = Unit
Apart (a ∷ []) (b ∷ rest) = meaning specials (a ∷ b ∷ []) ≡ []
Apart (a ∷ b ∷ more) rest = Unit

abbrev pub AllApart : List Entry → Type 0
AllApart [] = Unit
AllApart (e ∷ es) = Apart e.code (codes es) × AllApart es

-- the base characters that a maker may send for a text: those of both tables, in a row
pub record Translates (base text : List ℕ) : Type 0 where
  pub entries : List Entry
  pub row : Row (single translation 0) 0 entries 0
  pub apart : AllApart entries
  pub says : texts entries ≡ text
  pub is : codes entries ≡ base

-- what the receive system makes of base characters: from the front, a sequence of Table 5 is what it says there, and else a character is itself
unfoldable pub translated : List ℕ → List ℕ
translated [] = []
translated (a ∷ []) = a ∷ []
translated (a ∷ b ∷ base) =
    let special = meaning specials (a ∷ b ∷ []) in
    let together = texts special ++ translated base in
    let alone = a ∷ translated (b ∷ base) in
    cond (found special) together alone
