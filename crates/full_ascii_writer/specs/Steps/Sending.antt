-- Codes as the writer sends them, and how many bits they have.
-- Assumes nothing.
use Rattle.std.specs.Prelude.{cond, ◌&&◌, List, ℕ, ◌+◌, ◌≤◌, eqb, length, drop, get_or}
use Rattle.codes.specs.Chain.{codes}
use Rattle.codes.specs.Pack.{written}
use Rattle.codes.specs.Steps.Laid.{Fronted}
use Rattle.codes.specs.Steps.Sending.{OneOf, FirstOf}
use Rattle.codes.specs.declared.Sent.{Sent}
use Rattle.full_ascii.specs.Table.{LF, CR}
use Rattle.full_ascii.specs.Writer.{own, ours}

-- the character's own code: its number and its width
abbrev pub OwnOf : ℕ → Sent → Type 0
OwnOf c = OneOf (own c).code 9

-- our codes of the text from place i on
abbrev pub codes_from : List ℕ → ℕ → List ℕ
codes_from text i = codes (ours (drop i text))

-- the first of them, at most so many bits; then come those of the characters that they leave
abbrev pub FirstCodesOf : List ℕ → ℕ → ℕ → Sent → Type 0
FirstCodesOf text = FirstOf (codes_from text) (length text)

-- how many bits a character adds that comes after `before`: those of its own code, and none where the two are a line end, whose code has as many bits
-- as that of CR alone
unfoldable pub bits_for : ℕ → ℕ → ℕ
bits_for before c = cond (eqb before CR && eqb c LF) 0 (length (own c).code)

-- four characters are there from place i on, and none is a control character
pub record FourPlain (text : List ℕ) (i : ℕ) : Type 0 where
  pub there : i + 4 ≤ length text
  pub first : 32 ≤ get_or text i 0
  pub second : 32 ≤ get_or text (i + 1) 0
  pub third : 32 ≤ get_or text (i + 2) 0
  pub fourth : 32 ≤ get_or text (i + 3) 0

-- what our writer builds of the text stands at the front of the buffer, r bytes, and nothing else changed
abbrev pub PutsOurs : List ℕ → List ℕ → List ℕ → ℕ → Type 0
PutsOurs text = Fronted (written (ours text))
