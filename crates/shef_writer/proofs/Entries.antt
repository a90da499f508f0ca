-- What the code picks for the space and for #.
-- Assumes nothing.
use Prim.Native.Nat.{ℕ}

abbrev pub space_entry : ℕ
space_entry = 74

abbrev pub hash_entry : ℕ
hash_entry = 123
