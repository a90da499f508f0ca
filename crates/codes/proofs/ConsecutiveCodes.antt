-- Codes that are consecutive numbers of one width: each stands in the table at its number.
-- Assumes nothing.
use mathlib.Core.Path.{◌≡◌, ap, subst⁻¹}
use mathlib.Core.List.Memᴰ
use mathlib.Core.List.{List, [], ◌∷◌}
use Prim.Native.Nat.{ℕ, zero, suc, ◌+◌, ◌<◌}
use native.Mathlib.Omega.{arith}
use lib.ListN.{length, get_or}
use Rattle.codes.specs.Chain.{In}
use Rattle.codes.specs.Consecutive.{code_for, consecutive}

pub consecutive-in : (width number : ℕ) (characters : List ℕ) (n : ℕ) → n < length characters
    → In (code_for width (number + n) (get_or characters n 0 ∷ [])) (consecutive width number characters)
unfolding consecutive
consecutive-in width number [] n l = absurd (let no : ⊥ = omega arith in no)
consecutive-in width number (c ∷ cs) zero l =
    let at : number + 0 ≡ number = omega arith in
    Memᴰ.head (ap (λ (k : ℕ). code_for width k (c ∷ [])) at)
consecutive-in width number (c ∷ cs) (suc n) l =
    let at : number + suc n ≡ suc number + n = omega arith in
    Memᴰ.tail (subst⁻¹ (λ (k : ℕ). In (code_for width k (get_or cs n 0 ∷ [])) (consecutive width (suc number) cs)) at
    (consecutive-in width (suc number) cs n (omega arith)))
