-- Bytes of a buffer moved up from one place to another, the last first.
-- Assumes nothing.
use Rattle.std.specs.Prelude.{List, ◌++◌, ℕ, ◌+◌, take, drop}

-- all but the first so many are moved
abbrev pub moved_up : List ℕ → (from to count left : ℕ) → List ℕ
moved_up s from to count left = take (to + left) s ++ (drop left (take count (drop from s)) ++ drop (to + count) s)
