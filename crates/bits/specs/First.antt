-- The first of a row that passes a test.
-- Assumes nothing.
use Rattle.std.specs.Prelude.{Bool, cond, List, [], ◌∷◌}

module _ {A : Type 0} where
  -- alone in a row; the row is empty where none passes
  unfoldable pub first : (A → Bool) → List A → List A
  first test [] = []
  first test (x ∷ xs) = let further = first test xs in cond (test x) (x ∷ []) further
