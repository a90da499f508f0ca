-- Rows of a table whose codes are consecutive numbers of one width (001, Tables 4 and 6).
-- Assumes nothing.
use Rattle.std.specs.Prelude.{List, [], ◌∷◌, ℕ, suc}
use Rattle.codes.specs.Chain.{Entry}
use Rattle.codes.specs.Pack.{low}

-- the code of a text: a number in so many bits
unfoldable pub code_for : ℕ → ℕ → List ℕ → Entry
code_for width number text = record { code = low width number; says = text; announces = 0 }

-- codes of so many bits for a row of characters, from a number on
unfoldable pub consecutive : ℕ → ℕ → List ℕ → List Entry
consecutive width number [] = []
consecutive width number (c ∷ cs) = code_for width number (c ∷ []) ∷ consecutive width (suc number) cs
