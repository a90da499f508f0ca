-- The characters and codes of Compact Pseudo Binary (001, 4.2).
-- Assumes nothing.
use Rattle.std.specs.Prelude.{Bool, cond, ◌&&◌, ◌||◌, List, [], ◌∷◌, ◌++◌, map, ℕ, zero, suc, ◌+◌, ◌%◌, leb, eqb, length, replicate}
use Rattle.bits.specs.Numbers.{numbers}
use Rattle.codes.specs.Chain.{Entry, Scheme}
use Rattle.codes.specs.Pack.{low}
use Rattle.codes.specs.Coded.{alone, CodedBelow}

abbrev pub SPACE : ℕ
SPACE = 32

abbrev pub SLASH : ℕ
SLASH = 47

abbrev pub QUESTION_MARK : ℕ
QUESTION_MARK = 63

-- what an indicator counts
pub data Kind : Type 0 where
  values : Kind
  spaces : Kind
  slashes : Kind

-- the characters of each kind: the question mark and, right behind it, 64 to 127; space; slash
unfoldable pub is_of : Kind → ℕ → Bool
is_of values c = leb QUESTION_MARK c && leb c 127
is_of spaces c = eqb c SPACE
is_of slashes c = eqb c SLASH

-- the character has a code
unfoldable pub coded : ℕ → Bool
coded c = is_of values c || (is_of spaces c || is_of slashes c)

-- each character of the text has a code
abbrev pub AllCoded : List ℕ → Type 0
AllCoded text = CodedBelow (alone coded) text (length text)

-- the value of a character is its low six bits (001, 4.2.1): that of the question mark is 63, as that of 127
unfoldable pub value_of : ℕ → ℕ
value_of c = c % 64

-- a value reads back as 64 plus it, but 63 as the question mark (001, Tables 10 to 13)
unfoldable pub character_of : ℕ → ℕ
character_of v = cond (eqb v 63) QUESTION_MARK (64 + v)

-- `1ccccccc`: c + 1 six-bit values follow. `00cccc`: c + 1 spaces. `01cccc`: c + 1 slashes
unfoldable pub indicator : Kind → ℕ → Entry
indicator values c = record { code = 1 ∷ low 7 c; says = []; announces = suc c }
indicator spaces c = record { code = 0 ∷ 0 ∷ low 4 c; says = replicate (suc c) SPACE; announces = 0 }
indicator slashes c = record { code = 0 ∷ 1 ∷ low 4 c; says = replicate (suc c) SLASH; announces = 0 }

-- the most that one indicator counts
unfoldable pub most : Kind → ℕ
most values = 128
most spaces = 16
most slashes = 16

unfoldable pub indicators : Kind → List Entry
indicators k = map (indicator k) (numbers 0 (most k))

-- a six-bit value
unfoldable pub six : ℕ → Entry
six v = record { code = low 6 v; says = character_of v ∷ []; announces = 0 }

-- where no value is announced, an indicator; else a value
unfoldable pub tables : ℕ → List Entry
tables zero = indicators values ++ (indicators spaces ++ indicators slashes)
tables (suc m) = map six (numbers 0 64)

-- seven bits of the last byte or fewer are unused, and ones (RULES, Formats; as in 001, 4.5)
abbrev pub scheme : Scheme
scheme = record { table = tables; unused = 7 }
