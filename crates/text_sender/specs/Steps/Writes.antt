-- What the loops over a text ask of a format that has a code for each character.
-- Assumes nothing.
use Rattle.std.specs.Prelude.{◌≡◌, Bool, List, ℕ, ◌+◌, ◌*◌, ◌/◌, ◌≤◌, T, length}
use Rattle.codes.specs.Chain.{Entry, codes}
use Rattle.codes.specs.Coded.{CodedBelow}
use Rattle.codes.specs.Pack.{Binary, written}
use Rattle.codes.specs.Steps.Summed.{sum_after}

-- the character has a code behind some row
abbrev pub HasCode : (List ℕ → ℕ → Bool) → ℕ → Type 0
HasCode coded c = (row : List ℕ) × T (coded row c)

-- `ours` are the codes of a text, `bits_from` the bits that go for it from a place on, and `units_for` how many units of them a character adds that comes
-- after another
pub record WriteLaws (coded : List ℕ → ℕ → Bool) (ours : List ℕ → List Entry) (bits_from : List ℕ → ℕ → List ℕ) (units_for : ℕ → ℕ → ℕ) (unit fewest : ℕ)
    : Type 0 where
  -- codes are bits, and go from the first place on
  pub binary : (t : List ℕ) → CodedBelow coded t (length t) → Binary (codes (ours t))
  pub begins : (t : List ℕ) → codes (ours t) ≡ bits_from t 0
  -- as many bytes as the bits of the characters fill
  pub size : (t : List ℕ) → length (written (ours t)) ≡ (sum_after units_for 0 t * unit + 7) / 8
  pub small : unit ≤ 8
  -- and no fewer bits than so many for two characters
  pub least : (t : List ℕ) → CodedBelow coded t (length t) → fewest * length t ≤ 2 * (sum_after units_for 0 t * unit)
  pub some : 1 ≤ fewest
