-- What goes for a character, as the writer tells and counts it.
-- Assumes nothing.
use Rattle.std.specs.Prelude.{◌≡◌, Bool, ◌||◌, List, ℕ, ◌/◌, ◌%◌, ◌^◌, ◌≤◌, ◌<◌, eqb, length}
use Rattle.codes.specs.Chain.{codes}
use Rattle.codes.specs.LineEnds.{ended}
use Rattle.codes.specs.Lookup.{found, saying}
use Rattle.codes.specs.Pack.{low}
use Rattle.codes.specs.Steps.Sending.{OneOf, FirstOf}
use Rattle.codes.specs.declared.Sent.{Sent}
use Rattle.numeric.specs.Translation.{translation}
use Rattle.numeric.specs.Writer.{own}
use Rattle.numeric.specs.Steps.InFour.{bits_for, bits_from}

-- the character stands in one of the tables, or is a line end
abbrev pub stands : ℕ → Bool
stands c = found (saying translation (ended 0 c))

-- two signs go for it, where it goes at all: CR, LF, #, = and E
abbrev pub of_signs : ℕ → Bool
of_signs c = eqb c 13 || (eqb c 10 || (eqb c 35 || (eqb c 61 || eqb c 69)))

-- how many base characters go for a character that comes after another
abbrev pub codes_for : ℕ → ℕ → ℕ
codes_for before c = length (codes (own before c))

-- what goes for a character that comes after another: its bits as a number
abbrev pub OwnOf : ℕ → ℕ → Sent → Type 0
OwnOf before c = OneOf (bits_for before c) 8

-- the same of a character that is no line end, in one number: how many bits, and in the lowest eight the codes
pub record Packed (c packed : ℕ) : Type 0 where
  pub same : bits_for 0 c ≡ low (packed / 256) (packed % 256)
  pub fits : packed % 256 < 2 ^ (packed / 256)
  pub long : packed / 256 ≤ 8

-- the first bits of the text from place i on, at most so many; then come those of the characters that they leave
abbrev pub FirstCodesOf : List ℕ → ℕ → ℕ → Sent → Type 0
FirstCodesOf text = FirstOf (bits_from text) (length text)
