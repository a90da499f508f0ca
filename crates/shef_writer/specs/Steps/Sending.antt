-- Codes as the writer sends them, and how many bits they have.
-- Assumes nothing.
use Rattle.std.specs.Prelude.{◌≡◌, cond, List, ℕ, ◌+◌, ◌/◌, ◌%◌, eqb, length, take, drop}
use Rattle.codes.specs.Chain.{codes}
use Rattle.codes.specs.Coded.{last_of}
use Rattle.codes.specs.LineEnds.{LF, each_after}
use Rattle.codes.specs.Pack.{value}
use Rattle.codes.specs.Steps.Sending.{OneOf}
use Rattle.codes.specs.declared.Sent.{Sent}
use Rattle.shef.specs.Writer.{own}

-- the code whose number is the entry's lowest six bits: five bits, or six if the highest is 1
pub record CodeOf (entry : ℕ) (r : Sent) : Type 0 where
  pub number : r.bits ≡ entry % 64
  pub width : r.width ≡ 5 + r.bits / 32
  pub count : r.count ≡ 1

-- the code of a character that comes after `before`: its number and its width
abbrev pub OwnOf : ℕ → ℕ → Sent → Type 0
OwnOf before c = OneOf (codes (own before c)) 6

-- how many bits it has
abbrev pub bits_for : ℕ → ℕ → ℕ
bits_for before c = length (codes (own before c))

-- our codes of the text from place i on
abbrev pub codes_from : List ℕ → ℕ → List ℕ
codes_from text i = codes (each_after own (last_of (take i text)) (drop i text))

-- what a character has: the number that is its code, and 64, but for LF, which may be a part of a line end
unfoldable pub entry_of : ℕ → ℕ
entry_of c = cond (eqb c LF) 0 64 + value (codes (own 0 c))
