-- What holds of all below a number and of the number holds of all below the next.
-- Assumes nothing.
use mathlib.Core.Logic.{⊎_elim}
use mathlib.Core.Path.{sym, subst}
use Prim.Native.Nat.{ℕ, suc, ◌<◌}
use native.Mathlib.Nat.{eq-or-lt_of_le, le_of_suc-le-suc}

pub below_next : (P : ℕ → Type 0) (k : ℕ) → ((j : ℕ) → j < k → P j) → P k → (j : ℕ) → j < suc k → P j
below_next P k below here j lt = ⊎_elim (λ e. subst P (sym e) here) (λ less. below j less) (eq-or-lt_of_le (le_of_suc-le-suc lt))
