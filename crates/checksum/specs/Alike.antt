-- Rows that differ in one place only, or in two neighbouring places only.
-- Assumes nothing.
use Rattle.std.specs.Prelude.{◌≡◌, ◌≢◌, List, ℕ, suc, length, get_or}

-- of one length, and alike everywhere but at a place and at the place after it, if the rows reach so far
pub record AlikeBut (place : ℕ) (a b : List ℕ) : Type 0 where
  pub same_length : length a ≡ length b
  pub alike : (k : ℕ) → k ≢ place → k ≢ suc place → get_or a k 0 ≡ get_or b k 0
