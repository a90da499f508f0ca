-- The values that were announced, as the writer sends them, one or more at once; and what comes after them.
-- Assumes nothing.
use mathlib.Core.Path.{◌≡◌, refl, sym, ap, ap₂, subst⁻¹, subst₂, ◌∙◌}
use mathlib.Core.Bool.{true}
use mathlib.Core.List.{List, [], ◌∷◌, ◌++◌, append_assoc}
use Prim.Native.Nat.{ℕ, zero, suc, ◌+◌, ◌-◌, ◌*◌, ◌%◌, ◌^◌, ◌≤◌, ◌<◌}
use native.Mathlib.Numerals.{add-one}
use native.Mathlib.Omega.{arith}
use lib.Dec.{lit≤}
use lib.ListN.{length, take, drop, get_or, length-drop, drop_of_length-le}
use lib.Pow.{high}
use lib.Seq.{drop-cons}
use Rattle.codes.specs.Chain.{codes}
use Rattle.codes.specs.Pack.{low}
use Rattle.codes.proofs.LowBits.{low-add, low-join}
use Rattle.pseudo_binary.specs.Table.{Kind, values, is_of, value_of, six}
use Rattle.pseudo_binary.specs.Writer.{besides, ours_after, ours, Alike}
use Rattle.pseudo_binary_writer.specs.Steps.Sending.{FirstIndicatorOf, NextOf, two_values, four_values}
use Rattle.pseudo_binary_writer.specs.declared.Sent.{Sent}
use Rattle.pseudo_binary.proofs.Characters.{of-kind}

-- the announced values, one or four, and what comes after them
value-codes : (m c : ℕ) (t : List ℕ) → is_of values c ≡ true → codes (ours_after (suc m) (c ∷ t)) ≡ low 6 (c % 64) ++ codes (ours_after m t)
unfolding codes ours_after besides six value_of
value-codes m c t e = ap (λ (k : Kind). codes (besides k c ++ ours_after m t)) (of-kind values c e)

-- two rows of bits as one number
joined : (m n a b : ℕ) (t : List ℕ) → b < 2 ^ n → low m a ++ (low n b ++ t) ≡ low (m + n) (a * 2 ^ n + b) ++ t
joined m n a b t h =
    sym (append_assoc (low m a) (low n b) t)
    ∙ ap (λ (l : List ℕ). l ++ t)
    (sym (low-add m n (a * 2 ^ n + b) ∙ ap₂ (λ (x y : List ℕ). x ++ y) (ap (low m) (high a n h)) (low-join n a b h)))

next-value : (m c : ℕ) (t : List ℕ) → m ≤ length t → Alike values (take (suc m) (c ∷ t))
    → NextOf (suc m) (c ∷ t) (record { bits = c % 64; width = 6; values = m; count = 1 })
next-value m c t h a = record {
  next = value-codes m c t a.0;
  fits = omega arith;
  short = lit≤ tt;
  long = lit≤ tt;
  within = omega arith;
  alike = a.1;
}

-- a value more in the number
add-value : (n a c m : ℕ) (t more : List ℕ) → is_of values c ≡ true → more ≡ low n a ++ codes (ours_after (suc m) (c ∷ t))
    → more ≡ low (n + 6) (a * 64 + c % 64) ++ codes (ours_after m t)
add-value n a c m t more x e =
    e ∙ ap (λ (l : List ℕ). low n a ++ l) (value-codes m c t x) ∙ joined n 6 a (c % 64) (codes (ours_after m t)) (omega arith)

next-two : (m c d : ℕ) (t : List ℕ) → m ≤ length t → Alike values (take (suc (suc m)) (c ∷ d ∷ t))
    → NextOf (suc (suc m)) (c ∷ d ∷ t) (record { bits = c % 64 * 64 + d % 64; width = 12; values = m; count = 2 })
next-two m c d t h a = record {
  next = add-value 6 (c % 64) d m t (codes (ours_after (suc (suc m)) (c ∷ d ∷ t))) a.1.0 (value-codes (suc m) c (d ∷ t) a.0);
  fits = omega arith;
  short = lit≤ tt;
  long = lit≤ tt;
  within = omega arith;
  alike = a.1.1;
}

next-four : (m c d e f : ℕ) (t : List ℕ) → m ≤ length t → Alike values (take (suc (suc (suc (suc m)))) (c ∷ d ∷ e ∷ f ∷ t))
    → NextOf (suc (suc (suc (suc m)))) (c ∷ d ∷ e ∷ f ∷ t)
    (record { bits = ((c % 64 * 64 + d % 64) * 64 + e % 64) * 64 + f % 64; width = 24; values = m; count = 4 })
next-four m c d e f t h a =
    let all : List ℕ = codes (ours_after (suc (suc (suc (suc m)))) (c ∷ d ∷ e ∷ f ∷ t)) in
    let two : ℕ = c % 64 * 64 + d % 64 in
    record {
      next = add-value 18 (two * 64 + e % 64) f m t all a.1.1.1.0
          (add-value 12 two e (suc m) (f ∷ t) all a.1.1.0
          (add-value 6 (c % 64) d (suc (suc m)) (e ∷ f ∷ t) all a.1.0 (value-codes (suc (suc (suc m))) c (d ∷ e ∷ f ∷ t) a.0)));
      fits = omega arith;
      short = lit≤ tt;
      long = lit≤ tt;
      within = omega arith;
      alike = a.1.1.1.1;
    }

-- the same at place i of a text
one-there : (t : List ℕ) (i : ℕ) → i < length t → drop i t ≡ get_or t i 0 ∷ drop (i + 1) t
one-there t i h = drop-cons t i 0 h ∙ ap (λ (n : ℕ). get_or t i 0 ∷ drop n t) (sym (add-one i))

pub two-there : (t : List ℕ) (i : ℕ) → i + 2 ≤ length t → drop i t ≡ get_or t i 0 ∷ get_or t (i + 1) 0 ∷ drop (i + 2) t
two-there t i h =
    one-there t i (omega arith)
    ∙ ap (λ (l : List ℕ). get_or t i 0 ∷ l)
    (one-there t (i + 1) (omega arith) ∙ ap (λ (n : ℕ). get_or t (i + 1) 0 ∷ drop n t) (let e : i + 1 + 1 ≡ i + 2 = omega arith in e))

module _ (t : List ℕ) (i m : ℕ) (h : i + m ≤ length t) (a : Alike values (take m (drop i t))) where
  pub value-next : {sent : ℕ} → sent ≡ get_or t i 0 % 64 → 0 < m → NextOf m (drop i t) (record { bits = sent; width = 6; values = m - 1; count = 1 })
  value-next is k =
      let l : ℕ = m - 1 in
      let one : m ≡ suc l = omega arith in
      let u : List ℕ = get_or t i 0 ∷ drop (i + 1) t in
      let e : drop i t ≡ u = one-there t i (omega arith) in
      subst⁻¹ (λ (b : ℕ). NextOf m (drop i t) (record { bits = b; width = 6; values = l; count = 1 })) is
      (subst₂ (λ (j : ℕ) (s : List ℕ). NextOf j s (record { bits = get_or t i 0 % 64; width = 6; values = l; count = 1 })) (sym one) (sym e)
      (next-value l (get_or t i 0) (drop (i + 1) t) (omega (arith, length-drop (i + 1) t)) (subst₂ (λ (j : ℕ) (s : List ℕ). Alike values (take j s)) one e a)))

  pub two-next : 2 ≤ m → NextOf m (drop i t) (record { bits = two_values t i; width = 12; values = m - 2; count = 2 })
  two-next k =
      let l : ℕ = m - 2 in
      let two : m ≡ suc (suc l) = omega arith in
      let e : drop i t ≡ get_or t i 0 ∷ get_or t (i + 1) 0 ∷ drop (i + 2) t = two-there t i (omega arith) in
      subst₂ (λ (j : ℕ) (s : List ℕ). NextOf j s (record { bits = two_values t i; width = 12; values = l; count = 2 })) (sym two) (sym e)
      (next-two l (get_or t i 0) (get_or t (i + 1) 0) (drop (i + 2) t) (omega (arith, length-drop (i + 2) t))
      (subst₂ (λ (j : ℕ) (s : List ℕ). Alike values (take j s)) two e a))

  pub four-next : 4 ≤ m → NextOf m (drop i t) (record { bits = four_values t i; width = 24; values = m - 4; count = 4 })
  four-next k =
      let l : ℕ = m - 4 in
      let four : m ≡ suc (suc (suc (suc l))) = omega arith in
      let u : List ℕ = get_or t i 0 ∷ get_or t (i + 1) 0 ∷ get_or t (i + 2) 0 ∷ get_or t (i + 3) 0 ∷ drop (i + 2 + 2) t in
      let e : drop i t ≡ u =
      two-there t i (omega arith)
      ∙ ap (λ (s : List ℕ). get_or t i 0 ∷ get_or t (i + 1) 0 ∷ s)
      (two-there t (i + 2) (omega arith)
      ∙ ap (λ (j : ℕ). get_or t (i + 2) 0 ∷ get_or t j 0 ∷ drop (i + 2 + 2) t) (let x : i + 2 + 1 ≡ i + 3 = omega arith in x)) in
      subst₂ (λ (j : ℕ) (s : List ℕ). NextOf j s (record { bits = four_values t i; width = 24; values = l; count = 4 })) (sym four) (sym e)
      (next-four l (get_or t i 0) (get_or t (i + 1) 0) (get_or t (i + 2) 0) (get_or t (i + 3) 0) (drop (i + 2 + 2) t)
      (omega (arith, length-drop (i + 2 + 2) t)) (subst₂ (λ (j : ℕ) (s : List ℕ). Alike values (take j s)) four e a))

-- an indicator, where no values are announced
pub first_next : (t : List ℕ) (r : Sent) → FirstIndicatorOf t r → NextOf 0 t r
unfolding codes ours
first_next t r f = record {
  next = ap codes f.first ∙ ap (λ (l : List ℕ). l ++ codes (ours_after r.values (drop r.count t))) f.code;
  fits = f.fits;
  short = f.short;
  long = omega (arith, f.long);
  within = f.within;
  alike = f.alike;
}

-- at the text's end there is nothing more
pub ours-end : (t : List ℕ) (i m : ℕ) → length t ≤ i → codes (ours_after m (drop i t)) ≡ []
unfolding codes ours_after
ours-end t i m h = ap (λ (l : List ℕ). codes (ours_after m l)) (drop_of_length-le t h) ∙ none m
  where
    none : (m : ℕ) → codes (ours_after m []) ≡ []
    none zero = refl
    none (suc m) = refl
