-- The text of data: in Compact Numeric ASCII all data has one.
-- Assumes nothing.
use Rattle.std.specs.Prelude.{List, [], ◌∷◌, ℕ, ◌/◌, ◌%◌, get_or}
use Rattle.numeric.specs.Table.{characters}
use Rattle.numeric.specs.Translation.{translated}

-- the base character of a code
unfoldable pub character : ℕ → ℕ
character code = get_or characters code 0

-- the base characters of data, two to a byte
unfoldable pub spelled : List ℕ → List ℕ
spelled [] = []
spelled (b ∷ carried) = character (b / 16 % 16) ∷ character (b % 16) ∷ spelled carried

-- and the text
unfoldable pub text_of : List ℕ → List ℕ
text_of carried = translated (spelled carried)
