-- Which bits account for a difference between the check bits that a header's information asks for and those that came. The 31 bits below the
-- parity, divided by the generator, leave nothing in a header whose check is right; so what wrong bits leave is that difference.
-- Assumes nothing.
use Rattle.std.specs.Prelude.{◌≡◌, ℕ, ◌^◌, ◌≤◌, ◌<◌, Option, Some, None}
use Rattle.std.specs.Int.Count.{ones_in}
use Rattle.distance.specs.Steps.Left.{left}

-- the ones of a mask are at most two of the 31 bits, and account for a difference
pub record Accounts (difference mask : ℕ) : Type 0 where
  pub bits : mask < 2 ^ 31
  pub few : ones_in 31 mask ≤ 2
  pub leaves : left mask ≡ difference

-- the answer is such a mask, or that there is none
abbrev pub Repairs : ℕ → Option ℕ → Type 0
Repairs difference (Some mask) = Accounts difference mask
Repairs difference None = (mask : ℕ) → Accounts difference mask → ⊥
