-- The characters of Compact SHEF Alphanumeric ASCII and their codes (001, 4.4, Table 6).
-- Assumes nothing.
use Rattle.std.specs.Prelude.{List, [], ◌∷◌, ◌++◌}
use Rattle.bits.specs.Numbers.{numbers}
use Rattle.codes.specs.Chain.{Entry, Scheme, single}
use Rattle.codes.specs.Consecutive.{code_for, consecutive}
use Rattle.numeric.specs.Table.{characters}

-- the characters of Table 4 in five bits, the highest 0; in six bits, the highest 1: A to Z, CR LF, and # = : ; . Six ones are no code
unfoldable pub table : List Entry
table =
    consecutive 5 0 characters
    ++ (consecutive 6 32 (numbers 65 26) ++ (code_for 6 58 (13 ∷ 10 ∷ []) ∷ consecutive 6 59 (35 ∷ 61 ∷ 58 ∷ 59 ∷ [])))

-- seven bits of the last byte or fewer are unused, and ones
abbrev pub scheme : Scheme
scheme = single table 7
