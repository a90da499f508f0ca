-- The base characters of Compact Numeric ASCII and their codes (001, 4.3, Table 4).
-- Assumes nothing.
use Rattle.std.specs.Prelude.{List, [], ◌∷◌, ◌++◌, ℕ}
use Rattle.bits.specs.Numbers.{numbers}
use Rattle.codes.specs.Chain.{Entry, Scheme, single}
use Rattle.codes.specs.Consecutive.{consecutive}

-- the digits 0 to 9, then space + , - . /
unfoldable pub characters : List ℕ
characters = numbers 48 10 ++ (32 ∷ 43 ∷ 44 ∷ 45 ∷ 46 ∷ 47 ∷ [])

-- four bits each, from 0000 on
unfoldable pub table : List Entry
table = consecutive 4 0 characters

-- two codes fill a byte, and where their number is odd a space makes it even: no bit is unused
abbrev pub scheme : Scheme
scheme = single table 0
