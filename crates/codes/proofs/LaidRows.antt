-- Rows laid one after the other.
-- Assumes nothing.
use mathlib.Core.Path.{◌≡◌, refl, sym, ap, ap₂, ◌∙◌}
use mathlib.Core.List.{List, [], ◌∷◌, ◌++◌, append_assoc}
use Prim.Native.Nat.{ℕ, ◌+◌, ◌≤◌, ◌<◌}
use native.Mathlib.Nat.{add-zero, add_assoc}
use native.Mathlib.Numerals.{add-one}
use native.Mathlib.Omega.{arith}
use lib.ListN.{length, take, drop, set, length-append, length-drop, take-append-drop}
use lib.Seq.{set_split, length-take-le, take_at, drop-drop, drop-append-add}
use Rattle.codes.specs.Steps.Laid.{laid, Fronted}

pub laid_nil : (d : List ℕ) (n : ℕ) → laid d n [] ≡ d
unfolding laid
laid_nil d n = ap (λ (k : ℕ). take n d ++ drop k d) (add-zero n) ∙ take-append-drop n d

pub length-laid : (d : List ℕ) (n : ℕ) (c : List ℕ) → n + length c ≤ length d → length (laid d n c) ≡ length d
unfolding laid
length-laid d n c h =
    let front : length (take n d) ≡ n = length-take-le n d (omega arith) in
    omega (
      arith,
      length-append (take n d) (c ++ drop (n + length c) d),
      length-append c (drop (n + length c) d),
      length-drop (n + length c) d,
      front,
    )

-- two in a row are one
pub laid-laid : (d : List ℕ) (n m : ℕ) (c e : List ℕ) → n + length c ≤ length d → m ≡ n + length c
    → laid (laid d n c) m e ≡ laid d n (c ++ e)
unfolding laid
laid-laid d n m c e h x =
    let front : length (take n d) ≡ n = length-take-le n d (omega arith) in
    let head : length (take n d ++ c) ≡ m = length-append (take n d) c ∙ ap (λ (k : ℕ). k + length c) front ∙ sym x in
    let tail : List ℕ = drop (n + length c) d in
    let whole : take n d ++ (c ++ tail) ≡ (take n d ++ c) ++ tail = sym (append_assoc (take n d) c tail) in
    ap₂ (λ (a b : List ℕ). a ++ (e ++ b))
    (ap (take m) whole ∙ take_at (take n d ++ c) tail m head)
    (ap₂ (λ (k : ℕ) (l : List ℕ). drop (k + length e) l) (sym head) whole
    ∙ drop-append-add (take n d ++ c) tail (length e)
    ∙ drop-drop (length e) (n + length c) d
    ∙ ap (λ (k : ℕ). drop k d) (add_assoc n (length c) (length e) ∙ ap (λ (k : ℕ). n + k) (sym (length-append c e))))
    ∙ append_assoc (take n d) c (e ++ drop (n + length (c ++ e)) d)
    ∙ ap (λ (l : List ℕ). take n d ++ l) (sym (append_assoc c e (drop (n + length (c ++ e)) d)))

-- a store is one element laid
pub set-laid : (d : List ℕ) (n v : ℕ) → n < length d → set d n v ≡ laid d n (v ∷ [])
unfolding laid
set-laid d n v h = set_split d n v h ∙ ap (λ (k : ℕ). take n d ++ v ∷ drop k d) (sym (add-one n))

pub set-laid-two : (d : List ℕ) (n v w : ℕ) → n + 1 < length d → set (set d n v) (n + 1) w ≡ laid d n (v ∷ w ∷ [])
set-laid-two d n v w h =
    let first : set d n v ≡ laid d n (v ∷ []) = set-laid d n v (omega arith) in
    ap (λ (l : List ℕ). set l (n + 1) w) first
    ∙ set-laid (laid d n (v ∷ [])) (n + 1) w (omega (arith, length-laid d n (v ∷ []) (omega arith)))
    ∙ laid-laid d n (n + 1) (v ∷ []) (w ∷ []) (omega arith) refl

-- what stands at the front is a part of the buffer
pub front-within : {row entry exit : List ℕ} {r : ℕ} → Fronted row entry exit r → r ≤ length exit
front-within {row} {entry} {exit} {r} p = omega (arith, p.size, ap length p.whole, length-append row (drop r entry))
