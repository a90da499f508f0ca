-- Bytes counted, each by itself and with the one before it.
-- Assumes nothing.
use mathlib.Core.Bool.{Bool, true, false, cond, not, ◌&&◌, ◌||◌}
use mathlib.Core.List.{List, ◌∷◌}
use mathlib.Core.Logic.{by_cases}
use mathlib.Core.Path.{◌≡◌, refl, sym, ap, ap₂, subst, subst₂, ◌∙◌}
use Prim.Native.Nat.{ℕ, ◌+◌, ◌-◌, ◌*◌, ◌/◌, ◌%◌, ◌≤◌, ◌<◌}
use native.Mathlib.Decide.{ℕ_discrete, dec_lt}
use native.Mathlib.Omega.{arith}
use lib.Bits.{bit_and, and_zero_l}
use lib.Dec.{T, eqb}
use lib.ListN.{length, get_or, drop}
use borrow.Author.Tests.{eq-eqb, ne_eqb}
use Rattle.bits.specs.Numbers.{numbers}
use Rattle.bits.proofs.Numbers.{numbers-in}
use Rattle.codes.proofs.EveryElement.{every, every-at}
use Rattle.numeric.specs.Steps.Text.{character, spelled, text_of}
use Rattle.numeric.specs.Table.{characters}
use Rattle.numeric_reader.specs.Steps.Reached.{Reached, CountsByte, Counts}
use Rattle.numeric_reader.specs.Steps.Signs.{sign_if, sign, paired, meet, upper, lower, meets, saves, one, sign_after}
use Rattle.numeric_reader.proofs.Pairs.{pairs-some, pair-few, pair-number, pair_line, meet-not, meet-so, one-small}
use Rattle.numeric_reader.proofs.Reading.{alone, pair, spelled-byte, reached-none}

-- ---- the tests of bytes

-- the answers are the same
agree : Bool → Bool → Bool
agree true t = t
agree false t = not t

agreed : (s t : Bool) → T (agree s t) → s ≡ t
unfolding agree
agreed true true h = refl
agreed true false h = absurd h
agreed false true h = absurd h
agreed false false h = refl

joining : ℕ → Bool
joining b = eqb b 189 || (eqb b 219 || (eqb b 221 || eqb b 238))

module _ (b : ℕ) (byte : b < 256) where
  pub joins-told : (eqb b 189 || (eqb b 219 || (eqb b 221 || eqb b 238))) ≡ saves b
  unfolding joining agree every numbers saves meet sign sign_if character characters paired
  joins-told =
      agreed (joining b) (saves b)
      (every-at (λ k. agree (joining k) (saves k)) (numbers 0 256) tt b (numbers-in 0 256 b (omega arith) (omega arith)))

  pub pair-told : (saves b || eqb b 187) ≡ meets b
  unfolding agree every numbers saves meet sign sign_if character characters paired
  pair-told =
      agreed (saves b || eqb b 187) (meets b)
      (every-at (λ k. agree (saves k || eqb k 187) (meets k)) (numbers 0 256) tt b (numbers-in 0 256 b (omega arith) (omega arith)))

-- ---- what they mean

pairs-two : (p q : ℕ) → length (paired p q) ≤ 2
pairs-two p q = by_cases (dec_lt p 4) (λ h. omega (arith, pair-few p q h))
    (λ h. by_cases (dec_lt q 4) (λ k. omega (arith, ap length (pair-number p q (omega arith) k)))
    (λ k. omega (arith, ap length (pair_line p q (omega arith) (omega arith)))))

saves-none : (b : ℕ) → meets b ≡ false → one (saves b) ≡ 0
unfolding saves one
saves-none b e = ap {B = ℕ} (λ t. cond (t && eqb (length (paired (sign (upper b)) (sign (lower b)))) 1) 1 0) e

saves-so : (b : ℕ) → meets b ≡ true → one (saves b) + length (paired (sign (upper b)) (sign (lower b))) ≡ 2
unfolding saves one
saves-so b e =
    let k = length (paired (sign (upper b)) (sign (lower b))) in
    let some : 1 ≤ k = pairs-some (sign (upper b)) (sign (lower b)) in
    let few : k ≤ 2 = pairs-two (sign (upper b)) (sign (lower b)) in
    ap (λ (x : ℕ). x + k) (ap {B = ℕ} (λ t. cond (t && eqb k 1) 1 0) e) ∙ by_cases (ℕ_discrete k 1)
    (λ f. ap {B = ℕ} (λ t. cond t 1 0 + k) (eq-eqb k 1 f) ∙ (let g : 1 + k ≡ 2 = omega arith in g))
    (λ f. ap {B = ℕ} (λ t. cond t 1 0 + k) (ne_eqb k 1 f) ∙ (let g : 0 + k ≡ 2 = omega arith in g))

after-pair : (b : ℕ) → meets b ≡ true → sign_after b ≡ 0
unfolding sign_after
after-pair b e = ap (λ t. cond t 0 (sign (lower b))) e

after_none : (b : ℕ) → meets b ≡ false → sign_after b ≡ sign (lower b)
unfolding sign_after
after_none b e = ap (λ t. cond t 0 (sign (lower b))) e

-- a digit begins no pair
digit-first : (b : ℕ) → b < 16 → meets b ≡ false
unfolding agree every numbers meet sign sign_if character characters
digit-first b h =
    agreed (meets b) false
    (every-at (λ k. agree (meets k) false) (numbers 0 16) tt b (numbers-in 0 16 b (omega arith) (omega arith)))

-- ---- a byte behind another; `x` has the last code of the one and the first of the other

module _ (a b x : ℕ) (byte : b < 256) (across : x ≡ a % 16 * 16 + b / 16) where
  x-upper : upper x ≡ lower a
  x-upper = ap character (let e : x / 16 % 16 ≡ a % 16 = omega arith in e)

  x-lower : lower x ≡ upper b
  x-lower = ap character (let e : x % 16 ≡ b / 16 % 16 = omega arith in e)

  -- the first code stands by itself
  first_alone : {text rest : List ℕ} {n : ℕ} (u : Bool) → meets a ≡ u → meets x ≡ false → Reached text (upper b ∷ rest) (sign_after a) n
      → Reached text rest (sign (upper b)) (n + 1)
  first_alone true e f r = alone (upper b) r (ap (λ (k : ℕ). bit_and k (sign (upper b))) (after-pair a e) ∙ and_zero_l (sign (upper b)))
  first_alone false e f r =
      alone (upper b) r
      (ap (λ (k : ℕ). bit_and k (sign (upper b))) (after_none a e)
      ∙ ap₂ (λ (c d : ℕ). bit_and (sign c) (sign d)) (sym x-upper) (sym x-lower)
      ∙ meet-not (upper x) (lower x) f)

  -- it is the second of a pair
  first-second : {text rest : List ℕ} {n : ℕ} (m : ℕ) → meets a ≡ false → meets x ≡ true → m + one (saves x) ≡ n + 1
      → Reached text (upper b ∷ rest) (sign_after a) n → Reached text rest 0 m
  first-second {n = n} m e f size r =
      let told : paired (sign_after a) (sign (upper b)) ≡ paired (sign (upper x)) (sign (lower x)) =
      ap₂ paired (after_none a e ∙ ap sign (sym x-upper)) (ap sign (sym x-lower)) in
      pair (upper b) r
      (λ g. meet-so (upper x) (lower x) f (ap₂ bit_and (ap sign x-upper ∙ sym (after_none a e)) (ap sign x-lower) ∙ g))
      (omega (arith, saves-so x f, ap length told))

  pub counted-byte : not (meets x && (meets a || meets b)) ≡ true → CountsByte a b (one (saves x) + one (saves b))
  counted-byte = pick (meets x) (meets a) (meets b) refl refl refl
    where
      pick : (t u v : Bool) → meets x ≡ t → meets a ≡ u → meets b ≡ v → not (t && (u || v)) ≡ true → CountsByte a b (one (saves x) + one (saves b))
      pick true true v e f g h = absurd (subst T (sym h) tt)
      pick true false true e f g h = absurd (subst T (sym h) tt)
      pick true false false e f g h = λ text rest n m size r.
          let few : 1 ≤ m = omega (arith, saves-so x e, saves-none b g, pairs-some (sign (upper x)) (sign (lower x))) in
          subst₂ (Reached text rest) (sym (after_none b g)) (let y : m - 1 + 1 ≡ m = omega arith in y)
          (alone (lower b) (first-second (m - 1) f e (omega (arith, saves-none b g)) r) (and_zero_l (sign (lower b))))
      pick false u true e f g h = λ text rest n m size r.
          subst (λ (k : ℕ). Reached text rest k m) (sym (after-pair b g))
          (pair (lower b) (first_alone u f e r) (meet-so (upper b) (lower b) g) (omega (arith, saves-none x e, saves-so b g)))
      pick false u false e f g h = λ text rest n m size r.
          subst₂ (Reached text rest) (sym (after_none b g)) (let y : n + 1 + 1 ≡ m = omega (arith, saves-none x e, saves-none b g) in y)
          (alone (lower b) (first_alone u f e r) (meet-not (upper b) (lower b) g))

  -- as the numbers and tests come
  pub counted-told : {p q : ℕ} {t u v : Bool} → p ≡ one (saves x) → q ≡ one (saves b) → t ≡ meets x → u ≡ meets a → v ≡ meets b
      → (p + q ≤ 2) × (not (t && (u || v)) ≡ true → CountsByte a b (p + q))
  counted-told {p} {q} {t} {u} {v} d e f g h = (
    omega (arith, one-small (saves x), one-small (saves b)),
    λ told.
        subst₂ (λ (i j : ℕ). CountsByte a b (i + j)) (sym d) (sym e)
        (counted-byte (ap₂ (λ (i j : Bool). not (i && j)) (sym f) (ap₂ ◌||◌ (sym g) (sym h)) ∙ told)),
  )

-- behind none, as behind a byte of two digits
pub first_byte : (b : ℕ) → b < 256 → CountsByte 0 b (one (saves b))
first_byte b byte =
    let across : meets (b / 16) ≡ false = digit-first (b / 16) (omega arith) in
    subst (CountsByte 0 b) (let e : one (saves (b / 16)) + one (saves b) ≡ one (saves b) = omega (arith, saves-none (b / 16) across) in e)
    (counted-byte 0 b (b / 16) byte (omega arith) (ap (λ (t : Bool). not (t && (meets 0 || meets b))) across))

-- ---- bytes in a row

pub both_true : (t u : Bool) → t && u ≡ true → (t ≡ true) × (u ≡ true)
both_true true u e = (refl, e)
both_true false u e = absurd (subst T (sym e) tt)

pub counts-none : (s : List ℕ) (from : ℕ) → Counts s from from 0
counts-none s from text n m size r =
    subst (Reached text (spelled (drop from s)) (sign_after (get_or s (from - 1) 0))) (let e : n ≡ m = omega arith in e) r

pub counts-more : (s : List ℕ) (from i saved more : ℕ) → from ≤ i → i < length s → saved ≤ (i - from) * 2 → Counts s from i saved
    → CountsByte (get_or s (i - 1) 0) (get_or s i 0) more → Counts s from (i + 1) (saved + more)
counts-more s from i saved more h k few counts byte text n m size r =
    subst (λ (j : ℕ). Reached text (spelled (drop (i + 1) s)) (sign_after (get_or s j 0)) m) (let e : i ≡ i + 1 - 1 = omega arith in e)
    (byte text (spelled (drop (i + 1) s)) (n + (i - from) * 2 - saved) m (omega arith)
    (subst (λ (l : List ℕ). Reached text l (sign_after (get_or s (i - 1) 0)) (n + (i - from) * 2 - saved)) (spelled-byte s i k)
    (counts text n (n + (i - from) * 2 - saved) (omega arith) r)))

-- the first byte
pub counts-first : (s : List ℕ) {saved m : ℕ} → 0 < length s → get_or s 0 0 < 256 → saved ≡ one (saves (get_or s 0 0)) → m + saved ≡ 2
    → Reached (text_of s) (spelled (drop 1 s)) (sign_after (get_or s 0 0)) m
unfolding text_of sign_after meet sign sign_if character characters numbers
counts-first s {saved} {m} h byte e size =
    first_byte (get_or s 0 0) byte (text_of s) (spelled (drop 1 s)) 0 m (omega arith)
    (subst (λ (l : List ℕ). Reached (text_of s) l 0 0) (spelled-byte s 0 h) (reached-none (spelled s)))
