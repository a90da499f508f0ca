-- How many bits our writer takes: the count along the text, and for each run.
-- Assumes nothing.
use mathlib.Core.Path.{◌≡◌, refl, ap, ap₂, ◌∙◌}
use mathlib.Core.Bool.{Bool, true, false, cond}
use mathlib.Core.List.{List, [], ◌∷◌, ◌++◌}
use Prim.Native.Nat.{ℕ, zero, suc, pred, ◌+◌, ◌-◌, ◌*◌, ◌/◌}
use native.Mathlib.Numerals.{unary_clauses}
use native.Mathlib.Omega.{arith}
use lib.ListN.{length, length-append}
use Rattle.codes.specs.Chain.{Entry, codes}
use Rattle.codes.specs.Pack.{low}
use Rattle.pseudo_binary.specs.Table.{Kind, values, spaces, slashes, is_of, indicator, six}
use Rattle.pseudo_binary.specs.Writer.{kind, run, our_most, besides, ours_after, ours, Alike}
use Rattle.pseudo_binary.proofs.Length.{width, each, takes, bits_after, our_bits}
use Rattle.pseudo_binary.proofs.Characters.{Other, of-kind}

-- the bits of an indicator, and of a character besides
indicator-width : (k : Kind) (c : ℕ) → length (indicator k c).code ≡ width k
unfolding indicator width low
indicator-width values c = refl
indicator-width spaces c = refl
indicator-width slashes c = refl

pub besides-each : (k : Kind) (c : ℕ) (es : List Entry) → length (codes (besides k c ++ es)) ≡ each k + length (codes es)
unfolding besides each six codes low
besides-each values c es = omega arith
besides-each spaces c es = omega arith
besides-each slashes c es = omega arith

-- one indicator, and the character that it is opened for
pub opened-bits : (k : Kind) (j c : ℕ) (es : List Entry)
    → length (codes (indicator k j ∷ (besides k c ++ es))) ≡ width k + (each k + length (codes es))
unfolding codes
opened-bits k j c es =
    length-append (indicator k j).code (codes (besides k c ++ es)) ∙ ap₂ (λ (a b : ℕ). a + b) (indicator-width k j) (besides-each k c es)

after-bits : (k : Kind) (n : ℕ) (t : List ℕ) → length (codes (ours_after (run k n t) t)) ≡ bits_after k n t
unfolding run ours_after takes bits_after codes
after-bits k zero [] = refl
after-bits k (suc n) [] = refl
after-bits k zero (c ∷ t) =
    let j : Kind = kind c in
    let m : ℕ = run j (pred (our_most j)) t in
    opened-bits j m c (ours_after m t) ∙ ap (λ (x : ℕ). width j + (each j + x)) (after-bits j (pred (our_most j)) t)
after-bits k (suc n) (c ∷ t) = pick (is_of k c) refl (after-bits k n t) (after-bits (kind c) (pred (our_most (kind c))) t)
  where
    j : Kind
    j = kind c

    m : ℕ
    m = run j (pred (our_most j)) t

    pick : (b : Bool) → is_of k c ≡ b → length (codes (ours_after (run k n t) t)) ≡ bits_after k n t
        → length (codes (ours_after m t)) ≡ bits_after j (pred (our_most j)) t
        → length (codes (ours_after (cond b (suc (run k n t)) 0) (c ∷ t)))
        ≡ cond b (each k + bits_after k n t) (width j + (each j + bits_after j (pred (our_most j)) t))
    pick true x h g =
        ap (λ (l : Kind). length (codes (besides l c ++ ours_after (run k n t) t))) (of-kind k c x)
        ∙ besides-each k c (ours_after (run k n t) t) ∙ ap (λ (x : ℕ). each k + x) h
    pick false x h g = opened-bits j m c (ours_after m t) ∙ ap (λ (x : ℕ). width j + (each j + x)) g

-- the bits that our writer takes
pub our-bits : (t : List ℕ) → length (codes (ours t)) ≡ our_bits t
unfolding ours our_bits run
our-bits t = after-bits values 0 t

-- with no indicator in hand its kind does not matter, and a character of kind k needs one of kind k
pub none-in-hand : (k : Kind) (t : List ℕ) → bits_after k 0 t ≡ our_bits t
unfolding takes bits_after our_bits
none-in-hand k [] = refl
none-in-hand k (c ∷ t) = refl

pub opens : (k : Kind) (c : ℕ) (t : List ℕ) → kind c ≡ k → our_bits (c ∷ t) ≡ width k + (each k + bits_after k (pred (our_most k)) t)
unfolding takes bits_after our_bits
opens k c t e = ap (λ (j : Kind). width j + (each j + bits_after j (pred (our_most j)) t)) e

-- one that can count more counts a character of its kind, and is of no use for another
pub counts : (k : Kind) (n c : ℕ) (t : List ℕ) → is_of k c ≡ true → bits_after k (suc n) (c ∷ t) ≡ each k + bits_after k n t
unfolding takes bits_after
counts k n c t x =
    ap (λ (b : Bool). cond b (each k + bits_after k n t) (width (kind c) + (each (kind c) + bits_after (kind c) (pred (our_most (kind c))) t))) x

pub no-use : (k : Kind) (n c : ℕ) (t : List ℕ) → is_of k c ≡ false → bits_after k n (c ∷ t) ≡ our_bits (c ∷ t)
unfolding takes bits_after our_bits
no-use k zero c t x = refl
no-use k (suc n) c t x =
    ap (λ (b : Bool). cond b (each k + bits_after k n t) (width (kind c) + (each (kind c) + bits_after (kind c) (pred (our_most (kind c))) t))) x

no-use-other : (k : Kind) (n : ℕ) (t : List ℕ) → Other k t → bits_after k n t ≡ our_bits t
unfolding takes bits_after our_bits
no-use-other k n [] o = refl
no-use-other k n (c ∷ t) o = no-use k n c t o

-- how many indicators are started for n characters of kind k
unfoldable pub started : Kind → ℕ → ℕ
started k n = (n + pred (our_most k)) / our_most k

started_none : (k : Kind) (n : ℕ) → started k (0 - n) ≡ 0
unfolding started our_most
started_none values n = omega arith
started_none spaces n = omega arith
started_none slashes n = omega arith

started-one : (k : Kind) (n : ℕ) → started k (suc n) ≡ suc (started k (n - pred (our_most k)))
unfolding started our_most
started-one values n = omega arith
started-one spaces n = omega arith
started-one slashes n = omega arith

-- a run of kind k, where n of it are counted already
run-after : (k : Kind) (n : ℕ) (r t : List ℕ) → Alike k r → Other k t
    → bits_after k n (r ++ t) ≡ width k * started k (length r - n) + (each k * length r + our_bits t)
run-after k n [] t a o = omega (arith, no-use-other k n t o, ap (λ (x : ℕ). width k * x) (started_none k n))
run-after k zero (c ∷ r) t a o =
    simp unary_clauses
    (omega (
      arith,
      none-in-hand k (c ∷ (r ++ t)),
      opens k c (r ++ t) (of-kind k c a.0),
      run-after k (pred (our_most k)) r t a.1 o,
      simp unary_clauses at (ap (λ (x : ℕ). width k * x) (started-one k (length r))),
    ))
run-after k (suc n) (c ∷ r) t a o = simp unary_clauses (omega (arith, counts k n c (r ++ t) a.0, run-after k n r t a.1 o))

-- a run takes 8 bits for each 128 values that are started and 6 for each value, or 6 for each 16 spaces or slashes that are started
pub run-bits : (k : Kind) (r t : List ℕ) → Alike k r → Other k t
    → our_bits (r ++ t) ≡ width k * started k (length r) + (each k * length r + our_bits t)
run-bits k r t a o = omega (arith, none-in-hand k (r ++ t), simp unary_clauses at (run-after k 0 r t a o))
