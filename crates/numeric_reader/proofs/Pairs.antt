-- The pairs of Table 5 told by signs.
-- Assumes nothing.
use mathlib.Core.Bool.{Bool, true, false, cond, ◌&&◌}
use mathlib.Core.List.{List, [], ◌∷◌, ◌++◌}
use mathlib.Core.Logic.{by_cases}
use mathlib.Core.Path.{◌≡◌, refl, sym, ap, subst, ◌∙◌}
use Prim.Native.Nat.{ℕ, suc, ◌+◌, ◌≤◌, ◌<◌}
use native.Mathlib.Decide.{ℕ_discrete, dec_lt}
use native.Mathlib.Numerals.{add-one}
use native.Mathlib.Omega.{arith}
use lib.Bits.{bit_and}
use lib.Dec.{eqb, ltb}
use lib.ListN.{length, set, length-append}
use borrow.Author.Tests.{ne_eqb, lt-ltb, le-ltb, eqb-true, eqb-false, not-true, not-false}
use Rattle.bits.specs.First.{first}
use Rattle.codes.specs.Chain.{Entry, texts}
use Rattle.codes.specs.LineEnds.{LF, CR}
use Rattle.codes.specs.Lookup.{same, found, meaning}
use Rattle.codes.specs.Steps.Laid.{laid}
use Rattle.codes.proofs.LaidRows.{set-laid, set-laid-two}
use Rattle.numeric.specs.Translation.{sent, specials, translated}
use Rattle.numeric_reader.specs.Steps.Signs.{sign_if, sign, paired, meet, one}

-- a character is one of the three that make pairs, or none of them
data Sort : Bool → Bool → Bool → Type 0 where
  plus : Sort true false false
  minus : Sort false true false
  stop : Sort false false true
  plain : Sort false false false

sort : (c : ℕ) → Sort (eqb 43 c) (eqb 45 c) (eqb 46 c)
sort c = by_cases (ℕ_discrete 43 c) (λ e. subst (λ (x : ℕ). Sort (eqb 43 x) (eqb 45 x) (eqb 46 x)) e plus)
    (λ f. by_cases (ℕ_discrete 45 c) (λ e. subst (λ (x : ℕ). Sort (eqb 43 x) (eqb 45 x) (eqb 46 x)) e minus)
    (λ g. by_cases (ℕ_discrete 46 c) (λ e. subst (λ (x : ℕ). Sort (eqb 43 x) (eqb 45 x) (eqb 46 x)) e stop)
    (λ h. rw (ne_eqb 43 c f, ne_eqb 45 c g, ne_eqb 46 c h) plain)))

-- what is looked up of two characters, by these tests
looked : Bool → Bool → Bool → Bool → Bool → Bool → List Entry
looked p m s q n t =
    cond (p && (q && true)) (sent (43 ∷ 43 ∷ []) (CR ∷ LF ∷ []) ∷ [])
    (cond (p && (n && true)) (sent (43 ∷ 45 ∷ []) (35 ∷ []) ∷ [])
    (cond (m && (q && true)) (sent (45 ∷ 43 ∷ []) (61 ∷ []) ∷ [])
    (cond (s && (t && true)) (sent (46 ∷ 46 ∷ []) (58 ∷ []) ∷ []) (cond (m && (n && true)) (sent (45 ∷ 45 ∷ []) (69 ∷ []) ∷ []) []))))

-- the pair, or the first character by itself
joined : {p m s q n t : Bool} → Sort p m s → Sort q n t → (together alone : List ℕ)
    → cond (found (looked p m s q n t)) (texts (looked p m s q n t) ++ together) alone
    ≡ cond (eqb (bit_and (sign_if p m s) (sign_if q n t)) 0) alone (paired (sign_if p m s) (sign_if q n t) ++ together)
unfolding looked found texts sent sign_if paired
joined plus plus together alone = refl
joined plus minus together alone = refl
joined plus stop together alone = refl
joined plus plain together alone = refl
joined minus plus together alone = refl
joined minus minus together alone = refl
joined minus stop together alone = refl
joined minus plain together alone = refl
joined stop plus together alone = refl
joined stop minus together alone = refl
joined stop stop together alone = refl
joined stop plain together alone = refl
joined plain plus together alone = refl
joined plain minus together alone = refl
joined plain stop together alone = refl
joined plain plain together alone = refl

pub translated-two : (a b : ℕ) (base : List ℕ)
    → translated (a ∷ b ∷ base)
    ≡ cond (eqb (bit_and (sign a) (sign b)) 0) (a ∷ translated (b ∷ base)) (paired (sign a) (sign b) ++ translated base)
unfolding translated meaning specials same looked sign sent first
translated-two a b base = joined (sort a) (sort b) (translated base) (a ∷ translated (b ∷ base))

-- what a pair says ends with a character that has no sign
pub record Ends (says : List ℕ) : Type 0 where
  pub front : List ℕ
  pub end : ℕ
  pub is : says ≡ front ++ (end ∷ [])
  pub plain : sign end ≡ 0

pub ends : (one other : ℕ) → Ends (paired one other)
unfolding paired sign sign_if
ends one other = pick (ltb one 4) (ltb one 2) (ltb other 4)
  where
    pick : (p q r : Bool) → Ends (cond p (cond q (cond r (69 ∷ []) (61 ∷ [])) (58 ∷ [])) (cond r (35 ∷ []) (CR ∷ LF ∷ [])))
    pick true true true = record { front = []; end = 69; is = refl; plain = refl }
    pick true true false = record { front = []; end = 61; is = refl; plain = refl }
    pick true false true = record { front = []; end = 58; is = refl; plain = refl }
    pick true false false = record { front = []; end = 58; is = refl; plain = refl }
    pick false true true = record { front = []; end = 35; is = refl; plain = refl }
    pick false true false = record { front = CR ∷ []; end = LF; is = refl; plain = refl }
    pick false false true = record { front = []; end = 35; is = refl; plain = refl }
    pick false false false = record { front = CR ∷ []; end = LF; is = refl; plain = refl }

pub pairs-length : (one other : ℕ) → length (paired one other) ≡ suc (length (ends one other).front)
pairs-length one other =
    let c = ends one other in
    ap length c.is ∙ length-append c.front (c.end ∷ []) ∙ add-one (length c.front)

pub pairs-some : (one other : ℕ) → 1 ≤ length (paired one other)
pairs-some one other = omega (arith, pairs-length one other)

-- what each pair says
module _ (one other : ℕ) where
  pub pair-minus : one < 2 → other < 4 → paired one other ≡ 69 ∷ []
  unfolding paired
  pair-minus h k = simp (lt-ltb one 4 (omega arith), lt-ltb one 2 h, lt-ltb other 4 k)

  pub pair-equals : one < 2 → 4 ≤ other → paired one other ≡ 61 ∷ []
  unfolding paired
  pair-equals h k = simp (lt-ltb one 4 (omega arith), lt-ltb one 2 h, le-ltb other 4 k)

  pub pair-stop : 2 ≤ one → one < 4 → paired one other ≡ 58 ∷ []
  unfolding paired
  pair-stop h k = simp (lt-ltb one 4 k, le-ltb one 2 h)

  pub pair-number : 4 ≤ one → other < 4 → paired one other ≡ 35 ∷ []
  unfolding paired
  pair-number h k = simp (le-ltb one 4 h, lt-ltb other 4 k)

  pub pair_line : 4 ≤ one → 4 ≤ other → paired one other ≡ CR ∷ LF ∷ []
  unfolding paired
  pair_line h k = simp (le-ltb one 4 h, le-ltb other 4 k)

  -- one of them says two characters
  pub pair-few : one < 4 → length (paired one other) ≡ 1
  unfolding paired
  pair-few h = by_cases (dec_lt one 2)
      (λ k. by_cases (dec_lt other 4) (λ l. ap length (pair-minus k l)) (λ l. ap length (pair-equals k (omega arith))))
      (λ k. ap length (pair-stop (omega arith) h))

  -- what it says, put into a buffer
  pub puts_one : {v : ℕ} (d : List ℕ) (n : ℕ) → paired one other ≡ v ∷ [] → n + length (paired one other) ≤ length d
      → (n + 1 ≡ n + length (paired one other)) × (set d n v ≡ laid d n (paired one other))
  puts_one {v} d n e h = (
    ap (λ (l : List ℕ). n + length l) (sym e),
    set-laid d n v (omega (arith, ap length e)) ∙ ap (laid d n) (sym e),
  )

  pub puts-line : {v w : ℕ} (d : List ℕ) (n : ℕ) → paired one other ≡ v ∷ w ∷ [] → n + length (paired one other) ≤ length d
      → (n + 2 ≡ n + length (paired one other)) × (set (set d n v) (n + 1) w ≡ laid d n (paired one other))
  puts-line {v} {w} d n e h = (
    ap (λ (l : List ℕ). n + length l) (sym e),
    set-laid-two d n v w (omega (arith, ap length e)) ∙ ap (laid d n) (sym e),
  )

-- ---- whether two characters are a pair, as an answer and as a number

pub meet-not : (c d : ℕ) → meet c d ≡ false → bit_and (sign c) (sign d) ≡ 0
unfolding meet
meet-not c d e = eqb-true (bit_and (sign c) (sign d)) 0 (not-false (eqb (bit_and (sign c) (sign d)) 0) e)

pub meet-so : (c d : ℕ) → meet c d ≡ true → bit_and (sign c) (sign d) ≡ 0 → ⊥
unfolding meet
meet-so c d e = eqb-false (bit_and (sign c) (sign d)) 0 (not-true (eqb (bit_and (sign c) (sign d)) 0) e)

pub one-small : (t : Bool) → one t ≤ 1
unfolding one
one-small true = omega arith
one-small false = omega arith

pub one_none : (t : Bool) → one t ≡ 0 → t ≡ false
unfolding one
one_none true e = absurd (let no' : ⊥ = omega arith in no')
one_none false e = refl

pub one-some : (t : Bool) → one t ≡ 1 → t ≡ true
unfolding one
one-some true e = refl
one-some false e = absurd (let no' : ⊥ = omega arith in no')
