-- Terms that name two header bits or fewer may be named, and so may those of a call that names none.
-- Assumes nothing.
use mathlib.Core.Bool.{Bool, true, false}
use mathlib.Core.Path.{◌≡◌, ap₂, subst, subst⁻¹, ◌∙◌}
use Prim.Native.Nat.{ℕ}
use native.Mathlib.Omega.{arith}
use Rattle.terms.specs.declared.Terms.{Terms}
use Rattle.terms.specs.Terms.{most_at, MayMend, OnePacket, MayBeNamed, naming, usual}

-- at either rate, no more data than one packet holds
pub most-few : (rate-1200 : Bool) → OnePacket (most_at rate-1200)
most-few false = omega arith
most-few true = omega arith

pub naming-named : (mend : ℕ) (rate-1200 : Bool) → MayMend mend → MayBeNamed (naming mend rate-1200)
naming-named mend rate-1200 few = record { bits = few; bytes = most-few rate-1200 }

pub usual-named : (rate-1200 : Bool) → MayBeNamed (usual rate-1200)
usual-named rate-1200 = naming-named 1 rate-1200 (omega arith)

-- and so may terms that are those
pub named-so : (terms : Terms) (rate-1200 : Bool) → terms ≡ usual rate-1200 → MayBeNamed terms
named-so terms rate-1200 e = subst⁻¹ MayBeNamed e (usual-named rate-1200)

-- whatever number is named, no more data than one packet holds
pub bytes-so : (terms : Terms) (mend : ℕ) (rate-1200 : Bool) → terms ≡ naming mend rate-1200 → OnePacket terms.most
bytes-so terms mend rate-1200 e = subst⁻¹ (λ (t : Terms). OnePacket t.most) e (most-few rate-1200)

-- what is said under terms is said for the number of bits and the rate that they name: one that is not the caller's is refused where it stands
pub naming-so : (Said : Terms → Type 0) (terms : Terms) (given mend : ℕ) (named-1200 rate-1200 : Bool) → terms ≡ naming given named-1200 → given ≡ mend
    → named-1200 ≡ rate-1200 → Said terms → Said (naming mend rate-1200)
naming-so Said terms given mend named-1200 rate-1200 is same rate = subst Said (is ∙ ap₂ naming same rate)
