-- The distance of words: none only of a word from itself, the same both ways, and never longer than the way round.
-- Assumes nothing.
use mathlib.Core.Path.{◌≡◌}
use Prim.Native.Nat.{ℕ, ◌+◌, ◌^◌, ◌≤◌, ◌<◌}
use native.Mathlib.Omega.{arith}
use lib.Bits.{bit_xor}
use Rattle.bits.specs.Word.{differences}
use Rattle.bits.proofs.Ones.{ones-top, differences-comm, differences-round, differences-same}
use Rattle.distance.specs.Distance.{distance}

same : (width a b : ℕ) → differences width a b ≡ 0 → a < 2 ^ width → b < 2 ^ width → a ≡ b
same width a b e ha hb = differences-same width a b ha hb e

-- words of 32 bits that are no bit apart are the same
pub none_apart : (a b : ℕ) → a < 2 ^ 32 → b < 2 ^ 32 → distance a b ≡ 0 → a ≡ b
unfolding distance
none_apart a b ha hb e = same _ a b e (omega arith) (omega arith)

pub distance-comm : (a b : ℕ) → distance a b ≡ distance b a
unfolding distance
distance-comm = differences-comm _

pub distance-round : (a b c : ℕ) → distance a c ≤ distance a b + distance b c
unfolding distance
distance-round = differences-round _

-- the bits below the parity are among them
pub low_near : (a b : ℕ) → differences 31 a b ≤ distance a b
unfolding distance differences
low_near a b = omega (arith, ones-top 31 (bit_xor a b))
