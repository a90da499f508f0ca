-- Entries looked up in a table: what is found passes the test and stands in the table; and where no two entries are alike, each is found.
-- Assumes nothing.
use mathlib.Core.Path.{◌≡◌, refl, ap₂, subst⁻¹, ◌∙◌}
use mathlib.Core.Bool.{Bool, true, false, not, cond, ◌&&◌}
use mathlib.Core.Logic.{◌⊎◌, inl, inr, ⊎_elim}
use mathlib.Core.List.Memᴰ
use mathlib.Core.List.{List, [], ◌∷◌}
use Prim.Native.Nat.{ℕ}
use lib.Dec.{T, eqb, eqb→eq, eqb_refl}
use Rattle.bits.specs.First.{first}
use Rattle.bits.proofs.First.{searched}
use Rattle.codes.specs.Chain.{Entry, In}
use Rattle.codes.specs.Lookup.{same, found, saying, meaning}
use Rattle.bits.proofs.Said.{and_left, and_right, and_both}
use Rattle.codes.proofs.EveryElement.{every, every-at}

pub same-is : (a b : List ℕ) → T (same a b) → a ≡ b
unfolding same
same-is [] [] t = refl
same-is [] (d ∷ b) t = absurd t
same-is (c ∷ a) [] t = absurd t
same-is (c ∷ a) (d ∷ b) t =
    ap₂ (λ (x : ℕ) (l : List ℕ). x ∷ l) (eqb→eq c d (and_left (eqb c d) (same a b) t)) (same-is a b (and_right (eqb c d) (same a b) t))

pub same_self : (a : List ℕ) → T (same a a)
unfolding same
same_self [] = tt
same_self (c ∷ a) = and_both (eqb c c) (same a a) (eqb_refl c) (same_self a)

-- by its text
abbrev pub Sayer : List Entry → List ℕ → List Entry → Type 0
Sayer table text l = (l ≡ []) ⊎ ((e : Entry) × In e table × (e.says ≡ text) × (l ≡ e ∷ []))

pub sayer : (table : List Entry) (text : List ℕ) → Sayer table text (saying table text)
unfolding saying first
sayer table text =
    ⊎_elim (λ n. inl n.0) (λ o. inr (o.0, o.1.stands, same-is o.0.says text o.1.passes, o.2)) (searched (λ (e : Entry). same e.says text) table)

-- and by its code
abbrev pub Meant : List Entry → List ℕ → List Entry → Type 0
Meant table code l = (l ≡ []) ⊎ ((e : Entry) × In e table × (e.code ≡ code) × (l ≡ e ∷ []))

pub meant : (table : List Entry) (code : List ℕ) → Meant table code (meaning table code)
unfolding meaning first
meant table code =
    ⊎_elim (λ n. inl n.0) (λ o. inr (o.0, o.1.stands, same-is o.0.code code o.1.passes, o.2)) (searched (λ (e : Entry). same e.code code) table)

module _ (key : Entry → List ℕ) where
  -- no two entries have the same
  unfoldable pub unlike : List Entry → Bool
  unlike [] = true
  unlike (e ∷ es) = every (λ (d : Entry). not (same (key e) (key d))) es && unlike es

  passes : (e : Entry) (es : List Entry) (b : Bool) → T b → cond b (e ∷ []) es ≡ e ∷ []
  passes e es true t = refl
  passes e es false t = absurd t

  misses : (e : Entry) (es : List Entry) (b : Bool) → T (not b) → cond b (e ∷ []) es ≡ es
  misses e es true t = absurd t
  misses e es false t = refl

  own-found : (table : List Entry) → T (unlike table) → (e : Entry) → In e table → first (λ (d : Entry). same (key d) (key e)) table ≡ e ∷ []
  unfolding first unlike
  own-found [] t e h = absurd (Memᴰ.not-nil h)
  own-found (d ∷ es) t e h =
      let others : Bool = every (λ (z : Entry). not (same (key d) (key z))) es in
      let rest : List Entry = first (λ (z : Entry). same (key z) (key e)) es in
      ⊎_elim
      (λ x. subst⁻¹ (λ (z : Entry). cond (same (key d) (key z)) (d ∷ []) (first (λ (y : Entry). same (key y) (key z)) es) ≡ z ∷ []) x
      (passes d (first (λ (y : Entry). same (key y) (key d)) es) (same (key d) (key d)) (same_self (key d))))
      (λ m. misses d rest (same (key d) (key e))
      (every-at (λ (z : Entry). not (same (key d) (key z))) es (and_left others (unlike es) t) e m)
      ∙ own-found es (and_right others (unlike es) t) e m)
      (Memᴰ.cases_cons h)

pub saying-own : (table : List Entry) → T (unlike (λ e. e.says) table) → (e : Entry) → In e table → saying table e.says ≡ e ∷ []
unfolding saying first
saying-own table t e h = own-found (λ (d : Entry). d.says) table t e h

pub meaning-own : (table : List Entry) → T (unlike (λ e. e.code) table) → (e : Entry) → In e table → meaning table e.code ≡ e ∷ []
unfolding meaning first
meaning-own table t e h = own-found (λ (d : Entry). d.code) table t e h

-- something was found, or nothing
pub nothing-found : (l : List Entry) → (T (found l) → ⊥) → l ≡ []
unfolding found
nothing-found [] n = refl
nothing-found (e ∷ l) n = absurd (n tt)
