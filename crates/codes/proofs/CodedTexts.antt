-- A code for each character of a text: by the row, by a computed test, and one character more at a time.
-- Assumes nothing.
use mathlib.Core.Bool.{Bool, true, false}
use mathlib.Core.List.{List, [], ◌∷◌, ◌++◌}
use Prim.Native.Nat.{ℕ, zero, suc, ◌≤◌, ◌<◌}
use native.Mathlib.Omega.{arith}
use lib.Dec.{T}
use lib.ListN.{length, take, get_or}
use Rattle.codes.specs.Coded.{alone, CodedBelow, FirstUncoded}
use Rattle.bits.proofs.Below.{below_next}
use Rattle.bits.proofs.Said.{and_left, and_right}
use Rattle.codes.proofs.EveryElement.{every}

module _ (has : ℕ → Bool) where
  pub coded_none : CodedBelow (alone has) [] 0
  coded_none = λ i l. absurd (let none : ⊥ = omega arith in none)

  pub coded-cons : (c : ℕ) (t : List ℕ) → T (has c) → CodedBelow (alone has) t (length t) → CodedBelow (alone has) (c ∷ t) (length (c ∷ t))
  coded-cons c t x h = at
    where
      at : (i : ℕ) → i < length (c ∷ t) → T (has (get_or (c ∷ t) i 0))
      at zero l = x
      at (suc i) l = h i (omega arith)

  -- after the first character
  pub coded-rest : (c : ℕ) (t : List ℕ) → CodedBelow (alone has) (c ∷ t) (length (c ∷ t)) → CodedBelow (alone has) t (length t)
  coded-rest c t h = λ i l. h (suc i) (omega arith)

  pub coded-append : (a b : List ℕ) → CodedBelow (alone has) a (length a) → CodedBelow (alone has) b (length b) → CodedBelow (alone has) (a ++ b) (length (a ++ b))
  coded-append [] b h k = k
  coded-append (c ∷ a) b h k = coded-cons c (a ++ b) (h 0 (omega arith)) (coded-append a b (coded-rest c a h) k)

  pub coded-every : (t : List ℕ) → T (every has t) → CodedBelow (alone has) t (length t)
  unfolding every
  coded-every [] h = coded_none
  coded-every (c ∷ t) h = coded-cons c t (and_left (has c) (every has t) h) (coded-every t (and_right (has c) (every has t) h))

module _ (has : List ℕ → ℕ → Bool) where
  -- a text of which no character is the first without a code has a code for each
  settled : (b : Bool) → ((T b → ⊥) → ⊥) → T b
  settled true not-not = tt
  settled false not-not = not-not (λ t. t)

  pub coded-below : (text : List ℕ) → ((index : ℕ) → FirstUncoded has text index → ⊥) → (n : ℕ) → n ≤ length text → CodedBelow has text n
  coded-below text none zero le = λ i lt. absurd (let no' : ⊥ = omega arith in no')
  coded-below text none (suc n) le =
      let below = coded-below text none n (omega arith) in
      below_next (λ (k : ℕ). T (has (take k text) (get_or text k 0))) n below
      (settled (has (take n text) (get_or text n 0)) (λ no. none n (record { there = le; before = below; none = no })))
