-- A code as a reader takes it out of the bits. It holds of every table.
-- Assumes nothing.
use Rattle.std.specs.Prelude.{◌≡◌, List, [], ◌∷◌, ℕ, ◌≤◌, length, take}
use Rattle.codes.specs.Chain.{Entry, In, Begins}
use Rattle.codes.specs.Pack.{low}
use Rattle.codes.specs.declared.Code.{Code}

-- the characters that a code says: the first, or both
unfoldable pub characters_of : Code → List ℕ
characters_of r = take r.count (r.first ∷ r.second ∷ [])

-- a code that says one character
abbrev pub one_character : ℕ → ℕ → Code
one_character width first = record { width = width; count = 1; first = first; second = 0 }

-- the entry of the table that begins the nine bits w: its width and the characters that it says
pub record FirstCode (table : List Entry) (w : ℕ) (r : Code) : Type 0 where
  pub entry : Entry
  pub legal : In entry table
  pub begins : Begins entry.code (low 9 w)
  pub width : r.width ≡ length entry.code
  pub says : entry.says ≡ characters_of r
  pub counts : length entry.says ≡ r.count
  pub short : 5 ≤ r.width
  pub long : r.width ≤ 9
  pub some : 1 ≤ r.count
  pub few : r.count ≤ 2
