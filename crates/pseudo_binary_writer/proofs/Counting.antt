-- Runs of one kind, counted along a text.
-- Assumes nothing.
use mathlib.Core.Path.{◌≡◌, refl, sym, ap, ◌∙◌}
use mathlib.Core.Bool.{Bool, true, false, cond}
use mathlib.Core.Logic.{by_cases}
use mathlib.Core.List.{List, [], ◌∷◌}
use Prim.Native.Nat.{ℕ, zero, suc, ◌+◌, ◌-◌, ◌≤◌, ◌<◌, min}
use native.Mathlib.Decide.{dec_le}
use native.Mathlib.Nat.{zero-add}
use native.Mathlib.Numerals.{add-one}
use native.Mathlib.Omega.{arith}
use lib.ListN.{length, take, drop, get_or, drop_of_length-le}
use lib.Seq.{drop-cons}
use Rattle.pseudo_binary.specs.Table.{Kind, is_of, most}
use Rattle.pseudo_binary.specs.Writer.{run, Alike}

-- a run ends with the text, or before a character of another kind, and else goes on
run_none : (k : Kind) (n : ℕ) → run k n [] ≡ 0
unfolding run
run_none k zero = refl
run_none k (suc n) = refl

run-stop : (k : Kind) (n c : ℕ) (t : List ℕ) → is_of k c ≡ false → run k n (c ∷ t) ≡ 0
unfolding run
run-stop k zero c t e = refl
run-stop k (suc n) c t e = ap (λ (b : Bool). cond b (suc (run k n t)) 0) e

pub run-go : (k : Kind) (n c : ℕ) (t : List ℕ) → is_of k c ≡ true → run k (suc n) (c ∷ t) ≡ suc (run k n t)
unfolding run
run-go k n c t e = ap (λ (b : Bool). cond b (suc (run k n t)) 0) e

pub run-zero : (k : Kind) (t : List ℕ) → run k 0 t ≡ 0
unfolding run
run-zero k t = refl

-- the same at place i of a text
module _ (k : Kind) (n : ℕ) (t : List ℕ) (i : ℕ) where
  pub run_end : length t ≤ i → run k n (drop i t) ≡ 0
  run_end h = ap (run k n) (drop_of_length-le t h) ∙ run_none k n

  pub run-other : i < length t → is_of k (get_or t i 0) ≡ false → run k n (drop i t) ≡ 0
  run-other h e = ap (run k n) (drop-cons t i 0 h) ∙ run-stop k n (get_or t i 0) (drop (suc i) t) e

  pub run_more : i < length t → is_of k (get_or t i 0) ≡ true → run k (suc n) (drop i t) ≡ suc (run k n (drop (i + 1) t))
  run_more h e =
      ap (run k (suc n)) (drop-cons t i 0 h) ∙ run-go k n (get_or t i 0) (drop (suc i) t) e
      ∙ ap (λ (j : ℕ). suc (run k n (drop j t))) (sym (add-one i))

-- the front of a run, and what comes after it
pub run_past : (k : Kind) (n m : ℕ) (t : List ℕ) → n ≤ m → n ≤ length t → Alike k (take n t) → n + run k (m - n) (drop n t) ≡ run k m t
run_past k zero m t h l a = zero-add (run k (m - 0) t) ∙ ap (λ (j : ℕ). run k j t) (let e : m - 0 ≡ m = omega arith in e)
run_past k (suc n) zero t h l a = absurd (let none : ⊥ = omega arith in none)
run_past k (suc n) (suc m) [] h l a = absurd (let none : ⊥ = omega arith in none)
run_past k (suc n) (suc m) (c ∷ t) h l a =
    omega (
      arith,
      run_past k n m t (omega arith) (omega arith) a.1,
      run-go k m c t a.0,
      ap (λ (j : ℕ). run k j (drop n t)) (let e : suc m - suc n ≡ m - n = omega arith in e),
    )

-- n characters of a run were passed: one more of its kind
pub run_on : (k : Kind) (most n : ℕ) (t : List ℕ) (i whole : ℕ) → n < most → i + n < length t → is_of k (get_or t (i + n) 0) ≡ true
    → n + run k (most - n) (drop (i + n) t) ≡ whole → n + 1 + run k (most - (n + 1)) (drop (i + (n + 1)) t) ≡ whole
run_on k most n t i whole h there e so_far =
    let m : ℕ = most - (n + 1) in
    let step : run k (most - n) (drop (i + n) t) ≡ suc (run k m (drop (i + n + 1) t)) =
    ap (λ (j : ℕ). run k j (drop (i + n) t)) (let x : most - n ≡ suc m = omega arith in x) ∙ run_more k m t (i + n) there e in
    omega (arith, step, so_far, ap (λ (j : ℕ). run k m (drop j t)) (let x : i + (n + 1) ≡ i + n + 1 = omega arith in x))

-- or as many as are counted
pub run-full : (k : Kind) (most n : ℕ) (t : List ℕ) → most ≤ n → run k (most - n) t ≡ 0
run-full k most n t h = ap (λ (j : ℕ). run k j t) (let x : most - n ≡ 0 = omega arith in x) ∙ run-zero k t

pub run-within : (k : Kind) (n : ℕ) (t : List ℕ) → run k n t ≤ length t
unfolding run
run-within k zero t = omega arith
run-within k (suc n) [] = omega arith
run-within k (suc n) (c ∷ t) = pick (is_of k c) (run-within k n t)
  where
    pick : (b : Bool) → run k n t ≤ length t → cond b (suc (run k n t)) 0 ≤ suc (length t)
    pick true h = omega arith
    pick false h = omega arith

pub run-alike : (k : Kind) (n : ℕ) (t : List ℕ) → Alike k (take (run k n t) t)
unfolding run
run-alike k zero t = tt
run-alike k (suc n) [] = tt
run-alike k (suc n) (c ∷ t) = pick (is_of k c) refl (run-alike k n t)
  where
    pick : (b : Bool) → is_of k c ≡ b → Alike k (take (run k n t) t) → Alike k (take (cond b (suc (run k n t)) 0) (c ∷ t))
    pick true e h = (e, h)
    pick false e h = tt

-- where as many as are counted are passed, or the whole text, nothing is left of a run
pub run-whole : (k : Kind) (most n end : ℕ) (t : List ℕ) (i : ℕ) → end ≡ min most (length t - i) → end ≤ n → i ≤ length t → run k (most - n) (drop (i + n) t) ≡ 0
run-whole k most n end t i e h inside =
    by_cases (dec_le most n) (λ l. run-full k most n (drop (i + n) t) l) (λ l. run_end k (most - n) t (i + n) (omega arith))
