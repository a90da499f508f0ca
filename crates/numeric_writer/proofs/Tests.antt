-- The tests of the code, where it is told whether two signs go for the character; and what it picks for the colon.
-- Assumes nothing.
use mathlib.Core.Bool.{Bool, ◌&&◌, ◌||◌}
use Prim.Native.Nat.{ℕ}
use lib.Dec.{leb, eqb}

abbrev pub table_test : Bool → ℕ → Bool
table_test signs c = signs || (eqb c 32 || (leb 43 c && leb c 58))

abbrev pub clash_test : ℕ → Bool → ℕ → Bool
clash_test before signs c = (eqb before 43 || eqb before 45) && (signs || (eqb c 43 || eqb c 45)) || eqb before 46 && (eqb c 46 || eqb c 58)

abbrev pub colon_codes : ℕ
colon_codes = 0x8EE
