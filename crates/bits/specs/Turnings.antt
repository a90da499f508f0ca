-- All ways to turn over bits of a word, as rows of places, in the order in which one would write them down.
-- Assumes nothing.
use Rattle.std.specs.Prelude.{List, [], ◌∷◌, ◌++◌, map, ℕ, zero, suc, ◌+◌, ◌^◌}

-- exactly so many of the places below a width, the highest first: those with the highest place, then those without it
unfoldable pub chosen : ℕ → ℕ → List (List ℕ)
chosen zero width = [] ∷ []
chosen (suc many) zero = []
chosen (suc many) (suc width) = map (λ (places : List ℕ). width ∷ places) (chosen many width) ++ chosen (suc many) width

-- at most so many: none, then one, then two, and so on
unfoldable pub turnings : ℕ → ℕ → List (List ℕ)
turnings zero width = chosen zero width
turnings (suc most) width = turnings most width ++ chosen (suc most) width

-- the word that has ones at these places and nowhere else: turned over, they are the exclusive or with it
unfoldable pub mask_of : List ℕ → ℕ
mask_of [] = 0
mask_of (place ∷ places) = 2 ^ place + mask_of places
