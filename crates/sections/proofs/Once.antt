-- What is judged of checksums is one answer: right, or the first section whose is wrong.
-- Assumes nothing.
use mathlib.Core.List.{List}
use mathlib.Core.Path.{◌≡◌, refl, ap}
use Prim.Native.Nat.{ℕ, ◌<◌}
use native.Mathlib.Decide.{dec_lt}
use native.Mathlib.Omega.{arith}
use Rattle.std.specs.Prelude.{Option, Some, None}
use Rattle.sections.specs.Sections.{RightSums, FirstWrong}
use Rattle.sections.specs.Steps.Sums.{Judges}

module _ (n : ℕ) (came : List ℕ) where
  pub never_both : (k : ℕ) → RightSums n came → FirstWrong n came k → ⊥
  never_both k right f = f.wrong (right k f.there)

  pub one-wrong : (j k : ℕ) → FirstWrong n came j → FirstWrong n came k → j ≡ k
  one-wrong j k f g = pick (dec_lt j k) (dec_lt k j)
    where
      pick : Dec (j < k) → Dec (k < j) → j ≡ k
      pick (yes lt) d = absurd (f.wrong (g.before j lt))
      pick (no ge) (yes lt) = absurd (g.wrong (f.before k lt))
      pick (no ge) (no le) = omega arith

  pub judges-one : (a b : Option ℕ) → Judges n came a → Judges n came b → a ≡ b
  judges-one None None p q = refl
  judges-one None (Some k) p q = absurd (never_both k p q)
  judges-one (Some j) None p q = absurd (never_both j q p)
  judges-one (Some j) (Some k) p q = ap {B = Option ℕ} Some (one-wrong j k p q)
