-- Eight bytes as one number: how many, from the first on, are values.
-- Assumes nothing.
use mathlib.Core.Path.{◌≡◌, sym, ap, subst, subst⁻¹, ◌∙◌}
use mathlib.Core.Bool.{true}
use mathlib.Core.List.{List, [], ◌∷◌, ◌++◌}
use Prim.Native.Nat.{ℕ, zero, suc, ◌+◌, ◌-◌, ◌*◌, ◌/◌, ◌%◌, ◌^◌, ◌≤◌, ◌<◌}
use native.Mathlib.Nat.{add-zero, div-eq_of_lt, lt_of_lt_of_le}
use native.Mathlib.Omega.{arith}
use lib.Bits.{bit_and, and_le_r, and_block}
use lib.Count.{count_leading_zeros, leading_le, leading_length}
use lib.Dec.{eqb, lit<}
use lib.ListN.{length, take, drop, get_or}
use lib.Pow.{pow_mono}
use lib.Seq.{drop-cons, drop-drop, take-add}
use borrow.Author.Tests.{eq-eqb}
use Rattle.bits.specs.Numbers.{numbers}
use Rattle.codes.specs.Steps.EightBytes.{eight_at, eight_of}
use Rattle.codes.proofs.ByteTests.{same-below}
use Rattle.codes.proofs.CodedTexts.{coded-rest}
use Rattle.codes.proofs.EachByte.{eight-at, eight-difference, eight-each, eight-byte}
use Rattle.codes.proofs.EveryElement.{every}
use Rattle.pseudo_binary.specs.Table.{Kind, values, is_of, coded, AllCoded}
use Rattle.pseudo_binary.specs.Writer.{Alike}
use Rattle.pseudo_binary_writer.proofs.Ranges.{coded-small}

-- a row of characters of one kind, in two parts
alike-append : (k : Kind) (a b : List ℕ) → Alike k a → Alike k b → Alike k (a ++ b)
alike-append k [] b x y = y
alike-append k (c ∷ a) b x y = (x.0, alike-append k a b x.1 y)

pub alike-more : (k : Kind) (t : List ℕ) (i n m : ℕ) → Alike k (take n (drop i t)) → Alike k (take m (drop (i + n) t)) → Alike k (take (n + m) (drop i t))
alike-more k t i n m x y =
    subst⁻¹ (Alike k) (take-add n m (drop i t))
    (alike-append k (take n (drop i t)) (take m (drop n (drop i t))) x (subst⁻¹ (λ (l : List ℕ). Alike k (take m l)) (drop-drop n i t) y))

-- what the code makes of a character: the top bit is set unless it is a value
abbrev other : ℕ → ℕ
other c = bit_and (0xbe - c) 0x80

other-value : (c : ℕ) → c < 128 → other c ≡ 0 → is_of values c ≡ true
unfolding is_of numbers every
other-value c h e = sym (same-below 128 (λ (b : ℕ). eqb (other b) 0) (is_of values) tt c h) ∙ eq-eqb (other c) 0 e

-- and of eight at once
abbrev pub others : ℕ → ℕ
others v = bit_and (0xbebebebebebebebe - v) 0x8080808080808080

module _ (d : ℕ → ℕ) (small : (k : ℕ) → d k < 128) where
  others-each : others (eight_of d) ≡ eight_of (λ k. other (d k))
  unfolding eight_of
  others-each =
      ap (λ (n : ℕ). bit_and n 0x8080808080808080) (eight-difference (λ k. 0xbe) d (λ k. omega (arith, small k)))
      ∙ eight-each bit_and and_block (λ k. 0xbe - d k) (λ k. 0x80) (λ k. omega arith) (λ k. lit< tt)

  -- where what is set begins below a byte, its character is a value
  front-value : (j : ℕ) → j < 8 → others (eight_of d) < 2 ^ (56 - 8 * j) → is_of values (d j) ≡ true
  front-value j h below =
      other-value (d j) (small j)
      (sym (eight-byte (λ k. other (d k)) (λ k. omega (arith, and_le_r (0xbe - d k) 0x80)) j h)
      ∙ ap (λ (n : ℕ). n / 2 ^ (56 - 8 * j) % 256) (sym others-each) ∙ ap (λ (n : ℕ). n % 256) (div-eq_of_lt below))

-- characters of one kind, one by one
alike-each : (k : Kind) (t : List ℕ) (n i : ℕ) → i + n ≤ length t → ((j : ℕ) → j < n → is_of k (get_or t (i + j) 0) ≡ true) → Alike k (take n (drop i t))
alike-each k t zero i h e = tt
alike-each k t (suc n) i h e =
    subst⁻¹ (λ (l : List ℕ). Alike k (take (suc n) l)) (drop-cons t i 0 (omega arith)) (
      ap (λ (m : ℕ). is_of k (get_or t m 0)) (sym (add-zero i)) ∙ e 0 (omega arith),
      alike-each k t n (suc i) (omega arith)
          (λ j l. ap (λ (m : ℕ). is_of k (get_or t m 0)) (let x : suc i + j ≡ i + suc j = omega arith in x) ∙ e (suc j) (omega arith)),
    )

-- a character that has a code is below 128, and so is 0 behind the end
all_small : (s : List ℕ) → AllCoded s → (i : ℕ) → get_or s i 0 < 128
all_small [] all i = lit< tt
all_small (c ∷ s) all zero = coded-small c (all 0 (omega arith))
all_small (c ∷ s) all (suc i) = all_small s (coded-rest coded c s all) i

-- at place q of a text in which each character has a code
module _ (s : List ℕ) (q : ℕ) (h : q + 8 ≤ length s) (all : AllCoded s) where
  small : (k : ℕ) → get_or s (q + k) 0 < 128
  small k = all_small s all (q + k)

  pub none-borrowed : eight_at s q ≤ 0xbebebebebebebebe
  unfolding eight_of
  none-borrowed = omega (arith, eight-at s q, small 0, small 1, small 2, small 3, small 4, small 5, small 6, small 7)

  pub front-alike : Alike values (take (count_leading_zeros 64 (others (eight_at s q)) / 8) (drop q s))
  front-alike =
      let x : ℕ = others (eight_at s q) in
      let zeros : ℕ = count_leading_zeros 64 x in
      let few : zeros ≤ 64 = leading_le 64 x in
      let size = leading_length 64 x (omega (arith, and_le_r (0xbebebebebebebebe - eight_at s q) 0x8080808080808080)) in
      alike-each values s (zeros / 8) q (omega arith)
      (λ j l.
      front-value (λ k. get_or s (q + k) 0) small j (omega arith)
      (subst (λ (v : ℕ). others v < 2 ^ (56 - 8 * j)) (eight-at s q)
      (lt_of_lt_of_le size.2 (pow_mono (let e : size.0 ≤ 56 - 8 * j = omega (arith, size.1) in e)))))
