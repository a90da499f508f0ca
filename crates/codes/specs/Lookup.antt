-- An entry looked up in a table.
-- Assumes nothing.
use Rattle.std.specs.Prelude.{Bool, true, false, ◌&&◌, List, [], ◌∷◌, ℕ, eqb}
use Rattle.bits.specs.First.{first}
use Rattle.codes.specs.Chain.{Entry}

-- two rows are the same
unfoldable pub same : List ℕ → List ℕ → Bool
same [] [] = true
same [] (d ∷ ds) = false
same (c ∷ cs) [] = false
same (c ∷ cs) (d ∷ ds) = eqb c d && same cs ds

-- something was found
unfoldable pub found : List Entry → Bool
found [] = false
found (e ∷ es) = true

-- the entry that says the text
unfoldable pub saying : List Entry → List ℕ → List Entry
saying table text = first (λ e. same e.says text) table

-- and the one whose code this is
unfoldable pub meaning : List Entry → List ℕ → List Entry
meaning table code = first (λ e. same e.code code) table
