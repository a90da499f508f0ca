-- How many numbers are such as is said of them. The theorem `one-count` says that there is one answer.
-- Assumes nothing.
use Rattle.std.specs.Prelude.{◌≡◌, ℕ, ◌<◌}

-- so many are such: they can be numbered from 0 on, each once
pub record HowMany (Such : ℕ → Type 0) (count : ℕ) : Type 0 where
  pub nth : ℕ → ℕ
  pub such : (i : ℕ) → i < count → Such (nth i)
  pub once : (i j : ℕ) → i < count → j < count → nth i ≡ nth j → i ≡ j
  pub all : (n : ℕ) → Such n → (i : ℕ) × (i < count) × (nth i ≡ n)
