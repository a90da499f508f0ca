-- How many codes fit in data, and how much text.
-- Assumes nothing.
use mathlib.Core.List.{List}
use Prim.Native.Nat.{ℕ, zero, suc, ◌*◌, ◌/◌, ◌≤◌}
use native.Mathlib.Omega.{arith}
use lib.Dec.{T}
use lib.ListN.{length}
use Rattle.bits.specs.Numbers.{numbers}
use Rattle.codes.specs.Chain.{count_in, Built}
use Rattle.codes.specs.Pack.{low}
use Rattle.codes.proofs.EveryElement.{every}
use Rattle.codes.proofs.SizeBounds.{sized, few-codes, short-text}
use Rattle.pseudo_binary.specs.Table.{indicator, most, indicators, six, tables, scheme}

-- here a code has six bits or more, and says sixteen characters or fewer
pub all-sized : (m : ℕ) → T (every (sized 6 16) (tables m))
unfolding indicator most indicators six tables numbers low every sized
all-sized zero = tt
all-sized (suc m) = tt

-- how many indicators and values a building has
pub built-entries : {text : List ℕ} (sent : List ℕ) (b : Built scheme text sent) → count_in b ≤ 8 * length sent / 6
built-entries sent b = omega (arith, few-codes scheme 6 16 all-sized sent b)

-- how long its text is
pub built-bound : {text : List ℕ} (sent : List ℕ) → Built scheme text sent → length text ≤ 16 * (8 * length sent / 6)
built-bound sent b = omega (arith, built-entries sent b, short-text scheme 6 16 all-sized sent b)
