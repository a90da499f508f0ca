-- Lines of text (RULES, Reading program): a word, then numbers in decimal or hexadecimal, each after a single space, and the end of the line.
-- Assumes nothing.
use Rattle.std.specs.Prelude.{cond, List, [], ◌∷◌, ◌++◌, ℕ, zero, suc, ◌+◌, ◌*◌, ◌/◌, ◌%◌, ◌^◌, ltb}

-- the ASCII code of a digit
abbrev pub digit : ℕ → ℕ
digit d = 48 + d

-- a number below 10 ^ (places + 1) in decimal: below ten its digit, otherwise what a tenth of it is, and then its last digit
unfoldable pub decimal_in : ℕ → ℕ → List ℕ
decimal_in zero n = digit n ∷ []
decimal_in (suc places) n = cond (ltb n 10) (digit n ∷ []) (decimal_in places (n / 10) ++ (digit (n % 10) ∷ []))

-- 64 bits are at most twenty places
unfoldable pub decimal : ℕ → List ℕ
decimal = decimal_in 19

-- the ASCII code of a digit of hexadecimal: `0` to `9`, `A` to `F`
unfoldable pub hexadecimal_digit : ℕ → ℕ
hexadecimal_digit d = cond (ltb d 10) (digit d) (55 + d)

-- the lowest so many digits of a number in hexadecimal, four bits each, the highest of them first
unfoldable pub hexadecimal_in : ℕ → ℕ → List ℕ
hexadecimal_in zero n = []
hexadecimal_in (suc places) n = hexadecimal_digit (n / 2 ^ (4 * places) % 16) ∷ hexadecimal_in places n

-- 32 bits are eight
unfoldable pub hexadecimal : ℕ → List ℕ
hexadecimal = hexadecimal_in 8

-- numbers, each in decimal
unfoldable pub decimals : List ℕ → List (List ℕ)
decimals [] = []
decimals (n ∷ numbers) = decimal n ∷ decimals numbers

-- each after a single space
unfoldable pub spaced : List (List ℕ) → List ℕ
spaced [] = []
spaced (field ∷ fields) = (32 ∷ field) ++ spaced fields

-- a word, what follows it, and the end of the line
unfoldable pub line : List ℕ → List (List ℕ) → List ℕ
line word fields = word ++ (spaced fields ++ (10 ∷ []))

-- `refused` in ASCII
abbrev pub refused : List ℕ
refused = 114 ∷ 101 ∷ 102 ∷ 117 ∷ 115 ∷ 101 ∷ 100 ∷ []
