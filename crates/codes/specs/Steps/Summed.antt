-- A number for each character of a text, told by the one before it and by itself, and their sum.
-- Assumes nothing.
use Rattle.std.specs.Prelude.{◌≡◌, List, [], ◌∷◌, ℕ, ◌+◌, ◌-◌, drop, get_or}

-- the sum over a text that comes after a character
unfoldable pub sum_after : (ℕ → ℕ → ℕ) → ℕ → List ℕ → ℕ
sum_after number before [] = 0
sum_after number before (c ∷ text) = number before c + sum_after number c text

-- n for the characters of a text from one place up to another, both behind its first character
abbrev pub SumUpTo : (ℕ → ℕ → ℕ) → List ℕ → ℕ → ℕ → ℕ → Type 0
SumUpTo number text from to n =
    sum_after number (get_or text (from - 1) 0) (drop from text) ≡ n + sum_after number (get_or text (to - 1) 0) (drop to text)
