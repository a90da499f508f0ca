-- What a character comes back as, by the one before it; and how few bits the codes of a text can have, where a table has one code for a line end.
-- Assumes nothing.
use mathlib.Core.Path.{◌≡◌, refl, ap, subst, subst⁻¹}
use mathlib.Core.Bool.{Bool, true, false, cond, ◌&&◌}
use mathlib.Core.List.{List, [], ◌∷◌}
use Prim.Native.Nat.{ℕ, ◌+◌, ◌*◌, ◌≤◌}
use native.Mathlib.Nat.{mul-zero, mul-one, mul-suc}
use native.Mathlib.Omega.{arith}
use lib.Dec.{T, eqb}
use lib.ListN.{length, length-append}
use Rattle.bits.proofs.Said.{and_left}
use Rattle.codes.specs.Chain.{Entry, codes}
use Rattle.codes.specs.Coded.{alone, CodedBelow}
use Rattle.codes.specs.LineEnds.{LF, CR, each_after, ended}
use Rattle.codes.specs.Lookup.{found, saying}
use Rattle.codes.proofs.CodedTexts.{coded-rest}
use Rattle.codes.proofs.EachAfter.{each_codes}
use Rattle.codes.proofs.EveryElement.{every}
use Rattle.codes.proofs.FoundEntries.{long, saying-every, saying-one, codes-least}

-- the one before counts only where the two are CR LF
pub ended_same : (before c : ℕ) → (eqb before CR && eqb c LF) ≡ false → ended before c ≡ ended 0 c
unfolding ended
ended_same before c e = pick (eqb before CR) (eqb c LF) e
  where
    pick : (b l : Bool) → (b && l) ≡ false
        → cond (eqb c CR) (CR ∷ LF ∷ []) (cond l (cond b [] (CR ∷ LF ∷ [])) (c ∷ [])) ≡ cond (eqb c CR) (CR ∷ LF ∷ []) (cond l (CR ∷ LF ∷ []) (c ∷ []))
    pick true true x = absurd (subst T x tt)
    pick true false x = refl
    pick false true x = refl
    pick false false x = refl

ended_return : (before c : ℕ) → eqb c CR ≡ true → ended before c ≡ CR ∷ LF ∷ []
unfolding ended
ended_return before c e = rw e

yes : (b : Bool) → T b → b ≡ true
yes true t = refl
yes false t = absurd t

-- each entry has so many bits or more, and that of a line end twice as many: as many times so many bits as the text has characters, or more
module _ (table : List Entry) (each : ℕ) (all : T (every (long each) table)) (line : 2 * each ≤ length (codes (saying table (CR ∷ LF ∷ [])))) where
  abbrev own : ℕ → ℕ → List Entry
  own before c = saying table (ended before c)

  abbrev has : ℕ → Bool
  has c = found (saying table (ended 0 c))

  least-found : (text : List ℕ) → T (found (saying table text)) → each ≤ length (codes (saying table text))
  least-found text t =
      omega (
        arith,
        ap (λ (n : ℕ). each * n) (saying-one table text t),
        mul-one each,
        codes-least each (saying table text) (saying-every (long each) table all text),
      )

  -- CR has those of the LF behind it too
  least-own : (before c : ℕ) → T (has c) → each + cond (eqb c CR) each 0 ≤ length (codes (own before c)) + cond (eqb before CR) each 0
  least-own before c t = pick (eqb c CR) refl (eqb before CR && eqb c LF) refl
    where
      pick : (r : Bool) → eqb c CR ≡ r → (l : Bool) → (eqb before CR && eqb c LF) ≡ l
          → each + cond r each 0 ≤ length (codes (own before c)) + cond (eqb before CR) each 0
      pick true e l x = omega (arith, line, ap (λ (u : List ℕ). length (codes (saying table u))) (ended_return before c e))
      pick false e true x =
          omega (arith, ap (λ (b : Bool). cond b each 0) (yes (eqb before CR) (and_left (eqb before CR) (eqb c LF) (subst⁻¹ T x tt))))
      pick false e false x =
          omega (arith, least-found (ended before c) (subst⁻¹ (λ (u : List ℕ). T (found (saying table u))) (ended_same before c x) t))

  least-after : (before : ℕ) (text : List ℕ) → CodedBelow (alone has) text (length text)
      → each * length text ≤ length (codes (each_after own before text)) + cond (eqb before CR) each 0
  least-after before [] h = omega (arith, mul-zero each)
  least-after before (c ∷ text) h =
      omega (
        arith,
        mul-suc each (length text),
        ap length (each_codes own before c text),
        length-append (codes (own before c)) (codes (each_after own c text)),
        least-own before c (h 0 (omega arith)),
        least-after c text (coded-rest has c text h),
      )

  pub least-each : (text : List ℕ) → CodedBelow (alone has) text (length text) → each * length text ≤ length (codes (each_after own 0 text))
  least-each text h = omega (arith, least-after 0 text h)
