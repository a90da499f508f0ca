-- `header::check_bits` meets its contract: what the steps still to come leave of the number is what all of them leave of the information.
-- Assumes nothing.
use mathlib.Core.Path.{◌≡◌}
use Prim.Native.Nat.{ℕ, ◌+◌, ◌*◌, ◌^◌, ◌<◌}
use Rattle.header.specs.Check.{remainder, check_of}
use Rattle.header.proofs.check_bits.Given as goal

-- the number is one of 31 bits, none of its coefficients from x^(power + 10) up is left, and the steps below leave r
abbrev pub Dividing : ℕ → ℕ → ℕ → Type 0
Dividing r power left = (left < 2 ^ 31) × ((left < 2 ^ (power + 10)) × (remainder power left ≡ r))

abbrev pub invariant-loop-k : goal.invariant-loop-k
invariant-loop-k l = Dividing (check_of l.information) (4 * l.k) l.left
