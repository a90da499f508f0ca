-- Data of more bits than may be unused that can be read has a text: they are no fill, and no row of entries from where none is announced is silent.
-- Assumes nothing.
use mathlib.Core.Path.{◌≡◌, refl, ap, subst}
use mathlib.Core.Bool.{Bool}
use mathlib.Core.List.{List, [], ◌∷◌, ◌++◌}
use Prim.Native.Nat.{ℕ, zero, suc, ◌+◌, ◌<◌}
use native.Mathlib.Omega.{arith}
use lib.Dec.{T, ltb, ltb→lt}
use lib.ListN.{length, length-append}
use Rattle.codes.specs.Chain.{Entry, Scheme, In, state_after, Row, codes, texts, Builds}
use Rattle.codes.proofs.EveryElement.{every, every-at}

-- an indicator or code says something or announces something, and a value says something
pub record Speaks (scheme : Scheme) : Type 0 where
  pub first : (e : Entry) → In e (scheme.table 0) → 0 < length e.says + e.announces
  pub value : (m : ℕ) (e : Entry) → In e (scheme.table (suc m)) → 0 < length e.says

unfoldable pub heard : Entry → Bool
heard e = ltb 0 (length e.says + e.announces)

unfoldable pub said : Entry → Bool
said e = ltb 0 (length e.says)

-- the tests give it
pub speaks : (scheme : Scheme) → T (every heard (scheme.table 0)) → ((m : ℕ) → T (every said (scheme.table (suc m)))) → Speaks scheme
unfolding heard said
speaks scheme t u = record {
  first = λ e h. ltb→lt 0 (length e.says + e.announces) (every-at heard (scheme.table 0) t e h);
  value = λ m e h. ltb→lt 0 (length e.says) (every-at said (scheme.table (suc m)) (u m) e h);
}

module _ {scheme : Scheme} (s : Speaks scheme) where
  value-says : (m : ℕ) (es : List Entry) → Row scheme (suc m) es 0 → 0 < length (texts es)
  unfolding texts
  value-says m [] r = absurd (let no' : ⊥ = omega arith in no')
  value-says m (e ∷ es) r = omega (arith, s.value m e r.0, length-append e.says (texts es))

  first_says : (e : Entry) (es : List Entry) → In e (scheme.table 0) → Row scheme (state_after 0 e) es 0 → 0 < length (texts (e ∷ es))
  unfolding texts state_after
  first_says e es h r = pick e.announces refl
    where
      pick : (a : ℕ) → e.announces ≡ a → 0 < length (texts (e ∷ es))
      pick zero x = omega (arith, s.first e h, length-append e.says (texts es))
      pick (suc m) x =
          omega (
            arith,
            value-says m es (subst (λ (k : ℕ). Row scheme k es 0) (let y : state_after 0 e ≡ suc m = omega arith in y) r),
            length-append e.says (texts es),
          )

  pub never-silent : {bs text : List ℕ} → Builds scheme 0 bs text → scheme.unused < length bs → 0 < length text
  unfolding codes
  never-silent {bs} {text} r h = pick r.entries r.row r.says r.bits
    where
      pick : (es : List Entry) → Row scheme 0 es 0 → texts es ≡ text → bs ≡ codes es ++ r.fill → 0 < length text
      pick [] row x y = absurd (let no' : ⊥ = omega (arith, r.ends.few, ap length y) in no')
      pick (e ∷ es) row x y = subst (λ (t : List ℕ). 0 < length t) x (first_says e es row.0 row.1)
