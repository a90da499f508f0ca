-- No row of entries is shorter than a cost that no entry brings down by more than its own code.
-- Assumes nothing.
use mathlib.Core.Path.{◌≡◌, ap, subst, ◌∙◌}
use mathlib.Core.List.{List, [], ◌∷◌, ◌++◌}
use Prim.Native.Nat.{ℕ, ◌+◌, ◌≤◌}
use native.Mathlib.Nat.{le_of_eq}
use native.Mathlib.Omega.{arith}
use lib.ListN.{length, length-append}
use Rattle.codes.specs.Chain.{Entry, Scheme, In, state_after, Row, codes, texts}

-- a cost of text that is still to be said in a state: none at the end, and an entry in front of what a row says costs at most its code
pub record Cost (scheme : Scheme) (cost : ℕ → List ℕ → ℕ) : Type 0 where
  pub nothing : cost 0 [] ≡ 0
  pub entry : (m : ℕ) (e : Entry) (es : List Entry) → In e (scheme.table m) → Row scheme (state_after m e) es 0
      → cost m (e.says ++ texts es) ≤ length e.code + cost (state_after m e) (texts es)

pub least : {scheme : Scheme} {cost : ℕ → List ℕ → ℕ} → Cost scheme cost → (m : ℕ) (es : List Entry) → Row scheme m es 0
    → cost m (texts es) ≤ length (codes es)
unfolding codes texts
least {cost = cost} c m [] r = le_of_eq (ap (λ (n : ℕ). cost n []) r ∙ c.nothing)
least c m (e ∷ es) r = omega (arith, c.entry m e es r.0 r.1, least c (state_after m e) es r.1, length-append e.code (codes es))

-- where a writer's rows cost just that, no row that says the same has fewer bits
pub cost-shortest : {scheme : Scheme} {cost : ℕ → List ℕ → ℕ} (ours : List ℕ → List Entry) → Cost scheme cost
    → ((t : List ℕ) → length (codes (ours t)) ≡ cost 0 t) → (t : List ℕ) (es : List Entry) → Row scheme 0 es 0 → texts es ≡ t
    → length (codes (ours t)) ≤ length (codes es)
cost-shortest ours c x t es r says =
    subst (λ (u : List ℕ). length (codes (ours u)) ≤ length (codes es)) says (omega (arith, x (texts es), least c 0 es r))
