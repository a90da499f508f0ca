-- A code for each character of a text (RULES, Refusals: 9).
-- Assumes nothing.
use Rattle.std.specs.Prelude.{Bool, List, [], ◌∷◌, ℕ, ◌<◌, T, length, take, get_or}

-- whether a character has a code, told by what stands before it in the text and by itself; here by itself alone
abbrev pub alone : (ℕ → Bool) → List ℕ → ℕ → Bool
alone has before c = has c

-- the last of a row; no character stands before the first of a text: 0 stands for it
unfoldable pub last_of : List ℕ → ℕ
last_of [] = 0
last_of (c ∷ []) = c
last_of (c ∷ d ∷ row) = last_of (d ∷ row)

-- and here by the character right before it and by itself
abbrev pub behind : (ℕ → ℕ → Bool) → List ℕ → ℕ → Bool
behind has before c = has (last_of before) c

-- each character below the index has a code
abbrev pub CodedBelow : (List ℕ → ℕ → Bool) → List ℕ → ℕ → Type 0
CodedBelow has text n = (i : ℕ) → i < n → T (has (take i text) (get_or text i 0))

-- the index of the first character that has none
pub record FirstUncoded (has : List ℕ → ℕ → Bool) (text : List ℕ) (index : ℕ) : Type 0 where
  pub there : index < length text
  pub before : CodedBelow has text index
  pub none : T (has (take index text) (get_or text index 0)) → ⊥
