-- The search of a table for the entry whose code begins the bits: it computes, and it finds that entry or there is none.
-- Assumes nothing.
use mathlib.Core.Path.{◌≡◌, refl, subst, subst⁻¹}
use mathlib.Core.Bool.{Bool, true, false, cond}
use mathlib.Core.Logic.{⊎_elim}
use mathlib.Core.Option.{Option, none, some}
use mathlib.Core.List.Memᴰ
use mathlib.Core.List.{List, [], ◌∷◌}
use Prim.Native.Nat.{ℕ}
use lib.Dec.{T}
use Rattle.codes.specs.Chain.{Entry, In, Begins}
use Rattle.codes.proofs.Beginning.{begun, begun-begins, begins-begun}

unfoldable pub find : List Entry → List ℕ → Option Entry
find [] bs = none
find (e ∷ es) bs = let later = find es bs in cond (begun e.code bs) (some e) later

-- what the search's answer means
abbrev pub Found : List Entry → List ℕ → Option Entry → Type 0
Found table bs none = (e : Entry) → In e table → Begins e.code bs → ⊥
Found table bs (some e) = In e table × Begins e.code bs

pub found : (table : List Entry) (bs : List ℕ) → Found table bs (find table bs)
unfolding find
found [] bs = λ e h b. Memᴰ.not-nil h
found (e ∷ es) bs = pick (begun e.code bs) refl (find es bs) (found es bs)
  where
    pick : (t : Bool) → begun e.code bs ≡ t → (o : Option Entry) → Found es bs o → Found (e ∷ es) bs (cond t (some e) o)
    pick true x o h = (Memᴰ.head refl, begun-begins e.code bs (subst⁻¹ T x tt))
    pick false x none h = λ d k b.
        ⊎_elim (λ y. subst T x (begins-begun e.code bs (subst (λ (z : Entry). Begins z.code bs) y b)))
        (λ j. h d j b) (Memᴰ.cases_cons k)
    pick false x (some d) h = (Memᴰ.tail h.0, h.1)
