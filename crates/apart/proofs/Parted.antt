-- Where two rows part, byte by byte and in the byte that is not the same.
-- Assumes nothing.
use mathlib.Core.List.{List, [], ◌∷◌, ◌++◌, append_assoc}
use mathlib.Core.Path.{◌≡◌, refl, sym, ap, subst₂, ◌∙◌}
use Prim.Native.Nat.{ℕ, suc, ◌+◌, ◌-◌, ◌*◌, ◌/◌, ◌%◌, ◌^◌, ◌≤◌, ◌<◌}
use native.Mathlib.Omega.{arith}
use lib.ListN.{length, take, drop, get_or, length-append, length-take}
use lib.Pow.{shr-shr}
use lib.Seq.{take_at, get_or_at, split_at}
use Rattle.bits.specs.Row.{bits}
use Rattle.bits.specs.Word.{bit}
use Rattle.codes.specs.Pack.{low}
use Rattle.codes.proofs.BitsInBytes.{bits-cons, length-bits}
use Rattle.codes.proofs.LowBits.{length-low, low-add}
use Rattle.apart.specs.Apart.{FirstApart}
use Rattle.apart.specs.Steps.Parting.{HighestApart}

-- rows with one front, and then with bits that are not the same
pub parted : (front r s : List ℕ) (x y i : ℕ) → length front ≡ i → (x ≡ y → ⊥) → FirstApart (front ++ (x ∷ r)) (front ++ (y ∷ s)) i
parted front r s x y i long differ = record {
  in_one = omega (arith, long, length-append front (x ∷ r));
  in-other = omega (arith, long, length-append front (y ∷ s));
  before = take_at front (x ∷ r) i long ∙ sym (take_at front (y ∷ s) i long);
  here = λ same. differ (sym (get_or_at front x r 0 i long) ∙ same ∙ get_or_at front y s 0 i long);
}

-- ---- within a byte

-- a number is what stands above its lowest bit, and that bit
halved : (a b : ℕ) → a / 2 ≡ b / 2 → a % 2 ≡ b % 2 → a ≡ b
halved a b p q = omega arith

-- the bit is not the same
pub bit-apart : (a b power : ℕ) → HighestApart a b power → bit power a ≡ bit power b → ⊥
unfolding bit
bit-apart a b power h same =
    let next : power + 1 ≡ suc power = omega arith in
    let half : (n : ℕ) → n / 2 ^ power / 2 ≡ n / 2 ^ suc power = λ n. shr-shr n power 1 ∙ ap (λ (k : ℕ). n / 2 ^ k) next in
    h.apart (halved (a / 2 ^ power) (b / 2 ^ power) (half a ∙ h.above ∙ sym (half b)) same)

-- a byte's bits: those above, the bit, and those below
byte_split : (a power k : ℕ) → k + suc power ≡ 8 → low 8 a ≡ low k (a / 2 ^ suc power) ++ (bit power a ∷ low power a)
unfolding low
byte_split a power k e = ap (λ (n : ℕ). low n a) (sym e) ∙ low-add k (suc power) a

pub bits-append : (s t : List ℕ) → bits (s ++ t) ≡ bits s ++ bits t
unfolding bits
bits-append [] t = refl
bits-append (x ∷ s) t =
    bits-cons x (s ++ t) ∙ ap (λ (l : List ℕ). low 8 x ++ l) (bits-append s t) ∙ sym (append_assoc (low 8 x) (bits s) (bits t))
    ∙ ap (λ (l : List ℕ). l ++ bits t) (sym (bits-cons x s))

-- a row of bytes, taken apart at a bit of one of them
row-split : (front : List ℕ) (a : ℕ) (r : List ℕ) (power k : ℕ) → k + suc power ≡ 8
    → bits (front ++ (a ∷ r)) ≡ (bits front ++ low k (a / 2 ^ suc power)) ++ (bit power a ∷ (low power a ++ bits r))
row-split front a r power k e =
    let above = low k (a / 2 ^ suc power) in
    bits-append front (a ∷ r)
    ∙ ap (λ (l : List ℕ). bits front ++ l)
    (bits-cons a r ∙ ap (λ (l : List ℕ). l ++ bits r) (byte_split a power k e) ∙ append_assoc above (bit power a ∷ low power a) (bits r))
    ∙ sym (append_assoc (bits front) above (bit power a ∷ (low power a ++ bits r)))

-- rows of bytes with one front, and then with bytes that are not the same
pub bytes-parted : (front r s : List ℕ) (a b power i : ℕ) → HighestApart a b power → i ≡ length front * 8 + (7 - power)
    → FirstApart (bits (front ++ (a ∷ r))) (bits (front ++ (b ∷ s))) i
bytes-parted front r s a b power i h place =
    let k = 7 - power in
    let e : k + suc power ≡ 8 = omega (arith, h.low) in
    let above = low k (a / 2 ^ suc power) in
    let one = row-split front a r power k e in
    let other =
    row-split front b s power k e
    ∙ ap (λ (n : ℕ). (bits front ++ low k n) ++ (bit power b ∷ (low power b ++ bits s))) (sym h.above) in
    let long : length (bits front ++ above) ≡ i =
    omega (arith, place, length-append (bits front) above, length-bits front, length-low k (a / 2 ^ suc power)) in
    subst₂ (λ (x y : List ℕ). FirstApart x y i) (sym one) (sym other)
    (parted (bits front ++ above) (low power a ++ bits r) (low power b ++ bits s) (bit power a) (bit power b) i long (bit-apart a b power h))

-- ---- byte by byte

-- the rows are the same in their first i bytes, which both have
pub record Alike (a b : List ℕ) (i : ℕ) : Type 0 where
  pub in_one : i ≤ length a
  pub in-other : i ≤ length b
  pub same : take i a ≡ take i b

-- the next byte is not the same
pub alike-apart : {a b : List ℕ} {i : ℕ} → Alike a b i → i < length a → i < length b → (power at : ℕ) → HighestApart (get_or a i 0) (get_or b i 0) power
    → at ≡ 8 * i + 7 - power → FirstApart (bits a) (bits b) at
alike-apart {a} {b} {i} h p q power at apart place =
    let one : a ≡ take i a ++ (get_or a i 0 ∷ drop (suc i) a) = split_at a i 0 p in
    let other : b ≡ take i a ++ (get_or b i 0 ∷ drop (suc i) b) =
    split_at b i 0 q ∙ ap (λ (l : List ℕ). l ++ (get_or b i 0 ∷ drop (suc i) b)) (sym h.same) in
    subst₂ (λ (x y : List ℕ). FirstApart (bits x) (bits y) at) (sym one) (sym other)
    (bytes-parted (take i a) (drop (suc i) a) (drop (suc i) b) (get_or a i 0) (get_or b i 0) power at apart
    (omega (arith, place, apart.low, length-take i a)))
