-- The first bit at which two rows of bits differ (RULES, Judging): it lies within both, so neither is the front of the other; all before it are the same in
-- both; and it is not.
-- Assumes nothing.
use Rattle.std.specs.Prelude.{List, ◌≡◌, ℕ, ◌<◌, length, take, get_or}

pub record FirstApart (a b : List ℕ) (i : ℕ) : Type 0 where
  pub in_one : i < length a
  pub in-other : i < length b
  pub before : take i a ≡ take i b
  pub here : get_or a i 0 ≡ get_or b i 0 → ⊥
