-- Codes that are told by the character right before and by itself: the characters of a text in turn.
-- Assumes nothing.
use mathlib.Core.Path.{◌≡◌, sym, subst}
use mathlib.Core.Bool.{Bool}
use mathlib.Core.List.{List, [], ◌∷◌, ◌++◌, append_assoc, append-nil}
use Prim.Native.Nat.{ℕ, zero, suc, ◌<◌}
use native.Mathlib.Omega.{arith}
use lib.Dec.{T}
use lib.ListN.{length, take, get_or}
use Rattle.codes.specs.Coded.{last_of, behind, CodedBelow}
use Rattle.codes.proofs.EachAfter.{last-append}

module _ (has : ℕ → ℕ → Bool) where
  -- each character has a code behind the one before it
  abbrev pub CodedAfter : ℕ → List ℕ → Type 0
  CodedAfter before [] = Unit {0}
  CodedAfter before (c ∷ text) = T (has before c) × CodedAfter c text

  -- the characters of a text that stand behind others
  abbrev Later : List ℕ → List ℕ → Type 0
  Later passed text = (i : ℕ) → i < length text → T (has (last_of (passed ++ take i text)) (get_or text i 0))

  later-front : (passed : List ℕ) (c : ℕ) (l : List ℕ) → passed ++ (c ∷ l) ≡ (passed ++ (c ∷ [])) ++ l
  later-front passed c l = sym (append_assoc passed (c ∷ []) l)

  later-after : (text passed : List ℕ) → Later passed text → CodedAfter (last_of passed) text
  later-after [] passed h = tt
  later-after (c ∷ text) passed h = (
    subst (λ (l : List ℕ). T (has (last_of l) c)) (append-nil passed) (h 0 (omega arith)),
    subst (λ (b : ℕ). CodedAfter b text) (last-append passed c)
        (later-after text (passed ++ (c ∷ [])) (λ i l. subst (λ (k : List ℕ). T (has (last_of k) (get_or text i 0))) (later-front passed c (take i text)) (h (suc i) (omega arith)))),
  )

  after-later : (text passed : List ℕ) → CodedAfter (last_of passed) text → Later passed text
  after-later [] passed h = λ i l. absurd (let no : ⊥ = omega arith in no)
  after-later (c ∷ text) passed h = at (after-later text (passed ++ (c ∷ [])) (subst (λ (b : ℕ). CodedAfter b text) (sym (last-append passed c)) h.1))
    where
      at : Later (passed ++ (c ∷ [])) text → (i : ℕ) → i < length (c ∷ text) → T (has (last_of (passed ++ take i (c ∷ text))) (get_or (c ∷ text) i 0))
      at k zero l = subst (λ (m : List ℕ). T (has (last_of m) c)) (sym (append-nil passed)) h.0
      at k (suc i) l = subst (λ (m : List ℕ). T (has (last_of m) (get_or text i 0))) (sym (later-front passed c (take i text))) (k i (omega arith))

  pub coded-after : (text : List ℕ) → CodedBelow (behind has) text (length text) → CodedAfter 0 text
  unfolding last_of
  coded-after text h = later-after text [] h

  pub after-coded : (text : List ℕ) → CodedAfter 0 text → CodedBelow (behind has) text (length text)
  unfolding last_of
  after-coded text h = after-later text [] h
