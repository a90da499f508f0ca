-- Our writer cuts a whole run of one kind into the fullest indicators, with the remainder last.
-- Assumes nothing.
use mathlib.Core.Path.{◌≡◌, refl, sym, ap, subst, ◌∙◌}
use mathlib.Core.Logic.{inl, inr}
use mathlib.Core.List.{List, [], ◌∷◌, ◌++◌, append_assoc}
use Prim.Native.Nat.{ℕ, zero, suc, pred, ◌+◌, ◌-◌, ◌*◌, ◌/◌, ◌%◌, ◌≤◌, ◌<◌}
use native.Mathlib.Nat.{zero-mul, suc-mul}
use native.Mathlib.Omega.{arith}
use lib.ListN.{length, take, drop, length-drop, take-append-drop}
use lib.Seq.{drop-drop, length-take-le}
use Rattle.codes.specs.Chain.{Entry}
use Rattle.pseudo_binary.specs.Table.{Kind, values, spaces, slashes, indicator, most}
use Rattle.pseudo_binary.specs.Writer.{our_most, ours, Alike}
use Rattle.pseudo_binary.specs.Makers.{spelled}
use Rattle.pseudo_binary.proofs.Characters.{Other}
use Rattle.pseudo_binary.proofs.Entries.{pred-our-most}
use Rattle.pseudo_binary.proofs.Writer.{ours-cut}

-- ours count as many as one can, and that is one at the least
our-most : (k : Kind) → our_most k ≡ most k
unfolding our_most most
our-most values = refl
our-most spaces = refl
our-most slashes = refl

pred-most : (k : Kind) → suc (pred (most k)) ≡ most k
pred-most k = subst (λ (n : ℕ). suc (pred n) ≡ n) (our-most k) (pred-our-most k)

-- n indicators, each as full as one can be, and what the characters that they count take besides
unfoldable pub fullest : Kind → ℕ → List ℕ → List Entry
fullest k zero r = []
fullest k (suc n) r = (indicator k (pred (most k)) ∷ spelled k (take (most k) r)) ++ fullest k n (drop (most k) r)

-- one for the characters that are left, if there are any
unfoldable pub remainder : Kind → List ℕ → List Entry
remainder k [] = []
remainder k (c ∷ r) = indicator k (length r) ∷ spelled k (c ∷ r)

alike-take : (k : Kind) (n : ℕ) (r : List ℕ) → Alike k r → Alike k (take n r)
alike-take k zero r a = tt
alike-take k (suc n) [] a = tt
alike-take k (suc n) (c ∷ r) a = (a.0, alike-take k n r a.1)

alike-drop : (k : Kind) (n : ℕ) (r : List ℕ) → Alike k r → Alike k (drop n r)
alike-drop k zero r a = a
alike-drop k (suc n) [] a = tt
alike-drop k (suc n) (c ∷ r) a = alike-drop k n r a.1

-- as many as one indicator counts
cut-full : (k : Kind) (r t : List ℕ) → Alike k r → length r ≡ most k → ours (r ++ t) ≡ (indicator k (pred (most k)) ∷ spelled k r) ++ ours t
cut-full k [] t a e = absurd (let none : ⊥ = omega (arith, pred-most k) in none)
cut-full k (c ∷ r) t a e =
    ours-cut k c r t a (omega (arith, our-most k)) (inl (e ∙ sym (our-most k)))
    ∙ ap (λ (n : ℕ). (indicator k n ∷ spelled k (c ∷ r)) ++ ours t) (let x : length r ≡ pred (most k) = omega (arith, pred-most k) in x)

-- or fewer
cut-last : (k : Kind) (r t : List ℕ) → Alike k r → Other k t → length r < most k → ours (r ++ t) ≡ remainder k r ++ ours t
unfolding remainder
cut-last k [] t a o h = refl
cut-last k (c ∷ r) t a o h = ours-cut k c r t a (omega (arith, our-most k)) (inr o)

cuts : (k : Kind) (n : ℕ) (r t : List ℕ) → Alike k r → Other k t → n * most k ≤ length r → length r < n * most k + most k
    → ours (r ++ t) ≡ fullest k n r ++ (remainder k (drop (n * most k) r) ++ ours t)
unfolding fullest
cuts k zero r t a o l h =
    cut-last k r t a o (omega (arith, zero-mul (most k)))
    ∙ ap (λ (n : ℕ). remainder k (drop n r) ++ ours t) (sym (zero-mul (most k)))
cuts k (suc n) r t a o l h =
    let m : ℕ = most k in
    let front : List ℕ = take m r in
    let later : List ℕ = drop m r in
    let one : List Entry = indicator k (pred m) ∷ spelled k front in
    let last : List Entry = remainder k (drop (n * m) later) ++ ours t in
    let all : suc n * m ≡ n * m + m = suc-mul n m in
    let size : length later ≡ length r - m = length-drop m r in
    ap (λ (x : List ℕ). ours (x ++ t)) (sym (take-append-drop m r))
    ∙ ap ours (append_assoc front later t)
    ∙ cut-full k front (later ++ t) (alike-take k m r a) (length-take-le m r (omega arith))
    ∙ ap (λ (es : List Entry). one ++ es) (cuts k n later t (alike-drop k m r a) o (omega arith) (omega arith))
    ∙ sym (append_assoc one (fullest k n later) last)
    ∙ ap (λ (x : List ℕ). (one ++ fullest k n later) ++ (remainder k x ++ ours t))
    (drop-drop (n * m) m r ∙ ap (λ (j : ℕ). drop j r) (let e : m + n * m ≡ suc n * m = omega arith in e))

-- a run of kind k, with another kind or nothing behind it
module _ (k : Kind) (r : List ℕ) where
  full : (length r / most k * most k ≤ length r) × (length r < length r / most k * most k + most k)
      × (length r - length r / most k * most k ≡ length r % most k)
  unfolding most
  full = by_kind k
    where
      by_kind : (j : Kind) → (length r / most j * most j ≤ length r) × (length r < length r / most j * most j + most j)
          × (length r - length r / most j * most j ≡ length r % most j)
      by_kind values = (omega arith, omega arith, omega arith)
      by_kind spaces = (omega arith, omega arith, omega arith)
      by_kind slashes = (omega arith, omega arith, omega arith)

  -- is cut into as many full indicators as it has characters for, and one of the others
  pub ours-run : (t : List ℕ) → Alike k r → Other k t
      → ours (r ++ t) ≡ fullest k (length r / most k) r ++ (remainder k (drop (length r / most k * most k) r) ++ ours t)
  ours-run t a o = cuts k (length r / most k) r t a o full.0 full.1

  -- which are the remainder
  pub remainder-length : length (drop (length r / most k * most k) r) ≡ length r % most k
  remainder-length = length-drop (length r / most k * most k) r ∙ full.2
