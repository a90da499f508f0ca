-- The characters that make the pairs of Table 5 (001, 4.3), as numbers.
-- Assumes nothing.
use Rattle.std.specs.Prelude.{Bool, cond, not, ◌&&◌, List, [], ◌∷◌, map, ◌≡◌, ℕ, ◌+◌, ◌*◌, ◌/◌, ◌%◌, eqb, ltb, length}
use Rattle.std.specs.Int.Bits.{bit_and}
use Rattle.bits.specs.Numbers.{numbers}
use Rattle.codes.specs.LineEnds.{LF, CR}
use Rattle.numeric.specs.Steps.Text.{character}

unfoldable pub sign_if : Bool → Bool → Bool → ℕ
sign_if plus minus stop = cond plus 5 (cond minus 1 (cond stop 2 0))

-- the sign of a character: of + 5, of - 1, of . 2, of any other 0. Two characters are a pair where their signs have a bit in common
unfoldable pub sign : ℕ → ℕ
sign c = sign_if (eqb 43 c) (eqb 45 c) (eqb 46 c)

-- what the pair of these two signs says: of those with - first E or =, of . and . a colon, of + and - #, of + and + CR LF
unfoldable pub paired : ℕ → ℕ → List ℕ
paired one other =
    cond (ltb one 4) (cond (ltb one 2) (cond (ltb other 4) (69 ∷ []) (61 ∷ [])) (58 ∷ [])) (cond (ltb other 4) (35 ∷ []) (CR ∷ LF ∷ []))

-- two characters are a pair
unfoldable pub meet : ℕ → ℕ → Bool
meet c d = not (eqb (bit_and (sign c) (sign d)) 0)

unfoldable pub one : Bool → ℕ
one t = cond t 1 0

-- the characters of a byte's codes
abbrev pub upper : ℕ → ℕ
upper b = character (b / 16 % 16)

abbrev pub lower : ℕ → ℕ
lower b = character (b % 16)

-- they are a pair
abbrev pub meets : ℕ → Bool
meets b = meet (upper b) (lower b)

-- that says one character
unfoldable pub saves : ℕ → Bool
saves b = meets b && eqb (length (paired (sign (upper b)) (sign (lower b)))) 1

-- the sign of the last character behind a byte whose first code was not taken by the byte before it: none where the byte's codes are a pair
unfoldable pub sign_after : ℕ → ℕ
sign_after b = cond (meets b) 0 (sign (lower b))

-- two characters in one number, and under them what is asked of them: the sign of the first, whether they are a pair, and the sign of the second
unfoldable pub entry_for : ℕ → ℕ → ℕ
entry_for c d = sign c + one (meet c d) * 8 + (sign d + 8) * 256 + c * 65536 + d * 16777216

-- those of a byte's codes
unfoldable pub entry_of : ℕ → ℕ
entry_of b = entry_for (upper b) (lower b)

-- of each byte
unfoldable pub entries : List ℕ
entries = map entry_of (numbers 0 256)

abbrev pub first_of : ℕ → ℕ
first_of entry = entry / 65536 % 256

abbrev pub second_of : ℕ → ℕ
second_of entry = entry / 16777216

-- a number is an entry
abbrev pub Entry : ℕ → Type 0
Entry entry = entry ≡ entry_for (first_of entry) (second_of entry)
