-- A byte more in a buffer of bits, and bits taken out of it.
-- Assumes nothing.
use mathlib.Core.Path.{◌≡◌, refl, sym, ap, ap₂, subst, subst⁻¹, ◌∙◌}
use mathlib.Core.List.{List, ◌++◌, append_assoc, append-nil}
use Prim.Native.Nat.{ℕ, suc, ◌+◌, ◌-◌, ◌*◌, ◌/◌, ◌%◌, ◌^◌, ◌≤◌, ◌<◌}
use native.Mathlib.Nat.{mod-lt, mod-eq_of_lt, zero-lt-suc, one-mul, add_comm}
use native.Mathlib.Numerals.{add-one}
use native.Mathlib.Omega.{arith}
use lib.Arith.{digits_lt}
use lib.Dec.{lit<}
use lib.ListN.{length, take, drop, get_or, replicate, length-append, length-replicate, replicate-append-replicate, take-append-drop, drop_of_length-le}
use lib.Pow.{shl_exact, field, mod-mod-pow, pow-add, pow_pos, ones_lt, shr-shr}
use lib.Seq.{take_at, drop-cons, drop_at, take-take, take-append_seam, take-append-le, take-append-add}
use Rattle.bits.specs.Row.{bits}
use Rattle.bits.specs.Word.{bit}
use Rattle.codes.specs.Chain.{Fill, Begins}
use Rattle.codes.specs.Pack.{low, value}
use Rattle.codes.specs.Steps.BitBuffer.{ahead, Window}
use Rattle.codes.proofs.LowBits.{length-low, low-mod, low-join, low-add, low-padded, value_low, shl-mod}
use Rattle.codes.proofs.Fill.{ones_fill}
use Rattle.codes.proofs.BitsInBytes.{bits-cons}

-- higher bits are not seen
pub ahead-mod : (s : List ℕ) (held have next k : ℕ) → have ≤ k → ahead s (held % 2 ^ k) have next ≡ ahead s held have next
unfolding ahead
ahead-mod s held have next k h =
    ap (λ (l : List ℕ). l ++ bits (drop next s))
    (ap (λ (n : ℕ). low have (held % 2 ^ n)) (let e : k ≡ (k - have) + have = omega arith in e) ∙ low-mod have (k - have) held)

low_byte : (n v b : ℕ) → b < 256 → low (n + 8) (v * 256 + b) ≡ low n v ++ low 8 b
low_byte n v b h =
    low-add n 8 (v * 256 + b)
    ∙ ap₂ (λ (x : ℕ) (l : List ℕ). low n x ++ l) (let e : (v * 256 + b) / 256 ≡ v = omega arith in e) (low-join 8 v b h)

-- the next byte, at the lower end
pub ahead-byte : (s : List ℕ) (held have next : ℕ) → next < length s → get_or s next 0 < 256
    → ahead s (held * 256 + get_or s next 0) (have + 8) (next + 1) ≡ ahead s held have next
unfolding ahead
ahead-byte s held have next h k =
    ap₂ (λ (l : List ℕ) (n : ℕ). l ++ bits (drop n s)) (low_byte have held (get_or s next 0) k) (add-one next)
    ∙ append_assoc (low have held) (low 8 (get_or s next 0)) (bits (drop (suc next) s))
    ∙ ap (λ (l : List ℕ). low have held ++ l)
    (sym (bits-cons (get_or s next 0) (drop (suc next) s)) ∙ ap bits (sym (drop-cons s next 0 h)))

-- the same, with the numbers as they come
byte_at : (s : List ℕ) (held have next held' have' next' i : ℕ) → i ≡ next → held' ≡ held * 256 + get_or s i 0 → have' ≡ have + 8
    → next' ≡ next + 1 → i < length s → get_or s i 0 < 256 → ahead s held' have' next' ≡ ahead s held have next
byte_at s held have next held' have' next' i e x y z h k =
    ap₂ (λ (a b : ℕ). ahead s a b next') x y
    ∙ ap (λ (a : ℕ). ahead s (held * 256 + get_or s i 0) (have + 8) a) (z ∙ ap (λ (a : ℕ). a + 1) (sym e))
    ∙ ahead-byte s held have i h k
    ∙ ap (λ (a : ℕ). ahead s held have a) e

pub ahead-wide : (s : List ℕ) (held have next : ℕ) → have ≤ 32 → next < length s → get_or s next 0 < 256
    → ahead s (held % 4294967296 * 256 + get_or s next 0) (have + 8) (next + 1) ≡ ahead s held have next
ahead-wide s held have next h k b = ahead-byte s (held % 4294967296) have next k b ∙ ahead-mod s held have next 32 h

pub ahead-four : (s : List ℕ) (held have next word : ℕ) → have ≤ 32 → next + 3 < length s → ((i : ℕ) → get_or s i 0 < 256)
    → word ≡ (get_or s next 0 * 256 + get_or s (next + 1) 0) * 65536 + (get_or s (next + 2) 0 * 256 + get_or s (next + 3) 0)
    → ahead s (held % 4294967296 * 4294967296 + word) (have + 32) (next + 4) ≡ ahead s held have next
ahead-four s held have next word h k bytes e =
    let a : ℕ = held % 4294967296 * 256 + get_or s next 0 in
    let b : ℕ = a * 256 + get_or s (next + 1) 0 in
    let d : ℕ = b * 256 + get_or s (next + 2) 0 in
    byte_at s d (have + 24) (next + 3) (held % 4294967296 * 4294967296 + word) (have + 32) (next + 4) (next + 3) refl (omega arith)
    (omega arith) (omega arith) (omega arith) (bytes (next + 3))
    ∙ byte_at s b (have + 16) (next + 2) d (have + 24) (next + 3) (next + 2) refl refl (omega arith) (omega arith) (omega arith) (bytes (next + 2))
    ∙ byte_at s a (have + 8) (next + 1) b (have + 16) (next + 2) (next + 1) refl refl (omega arith) (omega arith) (omega arith) (bytes (next + 1))
    ∙ ahead-wide s held have next h (omega arith) (bytes next)

-- past the last byte what is ahead is what the buffer holds
pub ahead-last : (s : List ℕ) (held have next : ℕ) → length s ≤ next → ahead s held have next ≡ low have held
unfolding ahead bits
ahead-last s held have next h =
    ap (λ (l : List ℕ). low have held ++ bits l) (drop_of_length-le s h) ∙ append-nil (low have held)

-- w bits taken out
pub low-drop : (held have w : ℕ) → w ≤ have → drop w (low have held) ≡ low (have - w) held
low-drop held have w h =
    ap (λ (n : ℕ). drop w (low n held)) (let e : have ≡ w + (have - w) = omega arith in e)
    ∙ ap (drop w) (low-add w (have - w) held)
    ∙ drop_at (low w (held / 2 ^ (have - w))) (low (have - w) held) w (length-low w (held / 2 ^ (have - w)))

-- the next nine bits
pub window-whole : (held have : ℕ) → 9 ≤ have → Window held have (held / 2 ^ (have - 9) % 512)
window-whole held have h = record {
  nine = low-mod 9 0 (held / 2 ^ (have - 9))
      ∙ sym (take_at (low 9 (held / 2 ^ (have - 9))) (low (have - 9) held ++ replicate 9 1) 9 (length-low 9 (held / 2 ^ (have - 9))))
      ∙ ap (take 9)
      (sym (append_assoc (low 9 (held / 2 ^ (have - 9))) (low (have - 9) held) (replicate 9 1))
      ∙ ap (λ (l : List ℕ). l ++ replicate 9 1)
      (sym (low-add 9 (have - 9) held) ∙ ap (λ (n : ℕ). low n held) (let e : 9 + (have - 9) ≡ have = omega arith in e)));
  small = mod-lt (held / 2 ^ (have - 9)) (zero-lt-suc 511);
}

-- its first n bits
pub window-top : (held have n : ℕ) → n ≤ 9 → 9 ≤ have → held / 2 ^ (have - 9) % 512 / 2 ^ (9 - n) ≡ held / 2 ^ (have - n) % 2 ^ n
window-top held have n h k =
    ap (λ (i : ℕ). held / 2 ^ (have - 9) % 2 ^ i / 2 ^ (9 - n)) (let e : 9 ≡ n + (9 - n) = omega arith in e)
    ∙ field (held / 2 ^ (have - 9)) n (9 - n)
    ∙ ap (λ (x : ℕ). x % 2 ^ n)
    (shr-shr held (have - 9) (9 - n) ∙ ap (λ (i : ℕ). held / 2 ^ i) (let e : have - 9 + (9 - n) ≡ have - n = omega arith in e))

-- what the code works out where there are fewer
pub one_shifted : (k : ℕ) → k ≤ 9 → 1 * 2 ^ k % 2 ^ 64 ≡ 2 ^ k
one_shifted k h = shl_exact 1 k 64 (lit< tt) (omega arith) ∙ one-mul (2 ^ k)

pub held-shifted : (held h k : ℕ) → h + k ≡ 9 → held * 2 ^ k % 2 ^ 64 % 512 ≡ held % 2 ^ h * 2 ^ k
held-shifted held h k e =
    mod-mod-pow (held * 2 ^ k) 55 9 ∙ ap (λ (n : ℕ). held * 2 ^ k % 2 ^ n) (sym e) ∙ shl-mod held h k

pub window-short : (held have w : ℕ) → have < 9 → w ≡ held % 2 ^ have * 2 ^ (9 - have) + (2 ^ (9 - have) - 1) → Window held have w
window-short held have w h e =
    let k : ℕ = 9 - have in
    let whole : have + k ≡ 9 = omega arith in
    record {
      nine = ap (low 9) e
          ∙ ap (λ (n : ℕ). low n (held % 2 ^ have * 2 ^ k + (2 ^ k - 1))) (sym whole)
          ∙ low-padded have k held
          ∙ sym (take_at (low have held ++ replicate k 1) (replicate have 1) 9
          (length-append (low have held) (replicate k 1) ∙ ap₂ (λ (x y : ℕ). x + y) (length-low have held) (length-replicate k 1) ∙ whole))
          ∙ ap (take 9)
          (append_assoc (low have held) (replicate k 1) (replicate have 1)
          ∙ ap (λ (l : List ℕ). low have held ++ l)
          (replicate-append-replicate k have 1 ∙ ap (λ (n : ℕ). replicate n 1) (let x : k + have ≡ 9 = omega arith in x)));
      small = subst⁻¹ (λ (n : ℕ). n < 512) e
          (subst (λ (n : ℕ). held % 2 ^ have * 2 ^ k + (2 ^ k - 1) < n) (sym (pow-add 2 have k) ∙ ap (λ (n : ℕ). 2 ^ n) whole)
          (digits_lt (mod-lt held (pow_pos have)) (ones_lt k)));
    }

-- what begins the nine bits, and is no longer than the bits that there are, begins those
pub window-begins : (held have w : ℕ) (c : List ℕ) → Window held have w → Begins c (low 9 w) → length c ≤ have
    → low have held ≡ c ++ low (have - length c) held
window-begins held have w c v b h =
    let ones : List ℕ = replicate 9 1 in
    let nine : c ++ b.0 ≡ take 9 (low have held ++ ones) = sym b.1 ∙ v.nine in
    let size : length c ≤ 9 = omega (arith, ap length b.1, length-append c b.0, length-low 9 w) in
    let same : c ≡ take (length c) (low have held) =
    sym (take-append_seam c b.0)
    ∙ ap (take (length c)) nine
    ∙ take-take (length c) 9 (low have held ++ ones) size
    ∙ take-append-le (length c) (low have held) ones (omega (arith, length-low have held)) in
    sym (take-append-drop (length c) (low have held)) ∙ ap₂ (λ (x y : List ℕ). x ++ y) (sym same) (low-drop held have (length c) h)

-- and what begins the bits that there are begins the nine
pub begins-window : (held have w : ℕ) (c : List ℕ) → Window held have w → Begins c (low have held) → length c ≤ 9 → Begins c (low 9 w)
begins-window held have w c v b h = (
  take (9 - length c) (b.0 ++ replicate 9 1),
  v.nine
      ∙ ap (λ (l : List ℕ). take 9 (l ++ replicate 9 1)) b.1
      ∙ ap (take 9) (append_assoc c b.0 (replicate 9 1))
      ∙ ap (λ (n : ℕ). take n (c ++ (b.0 ++ replicate 9 1))) (let e : 9 ≡ length c + (9 - length c) = omega arith in e)
      ∙ take-append-add c (b.0 ++ replicate 9 1) (9 - length c),
)

pub take-ones : (n : ℕ) → n ≤ 9 → take {A = ℕ} n (replicate 9 1) ≡ replicate n 1
take-ones n h =
    ap (λ (k : ℕ). take {A = ℕ} n (replicate k 1)) (let e : 9 ≡ n + (9 - n) = omega arith in e)
    ∙ ap (take n) (sym (replicate-append-replicate n (9 - n) 1))
    ∙ take_at (replicate n 1) (replicate (9 - n) 1) n (length-replicate n 1)

-- they are one number
pub window-one : (held have v w : ℕ) → Window held have v → Window held have w → v ≡ w
window-one held have v w x y =
    sym (value_low 9 v ∙ mod-eq_of_lt x.small) ∙ ap value (x.nine ∙ sym y.nine) ∙ (value_low 9 w ∙ mod-eq_of_lt y.small)

-- and so is what bits that are put in at the lower end make of a number of 64 bits
pub push-one : (held bits width v w : ℕ) → width ≤ 64 → v < 2 ^ 64 → w < 2 ^ 64 → ((n : ℕ) → n + width ≤ 64 → low (n + width) v ≡ low n held ++ low width bits)
    → ((n : ℕ) → n + width ≤ 64 → low (n + width) w ≡ low n held ++ low width bits) → v ≡ w
push-one held bits width v w h a b x y =
    let all : (64 - width) + width ≡ 64 = omega arith in
    let same : low 64 v ≡ low 64 w =
    subst (λ (n : ℕ). low n v ≡ low n w) all (x (64 - width) (omega arith) ∙ sym (y (64 - width) (omega arith))) in
    sym (value_low 64 v ∙ mod-eq_of_lt a) ∙ ap value same ∙ (value_low 64 w ∙ mod-eq_of_lt b)

-- the nine bits are ones where the bits that there are are a fill
pub window-fill : (held have w : ℕ) → Window held have w → have ≤ 7 → w ≡ 511 → Fill 7 (low have held)
unfolding low bit
window-fill held have w v h e =
    subst⁻¹ (Fill 7)
    (sym (take_at (low have held) (replicate 9 1) have (length-low have held))
    ∙ sym (take-take have 9 (low have held ++ replicate 9 1) (omega arith))
    ∙ ap (take have) (sym v.nine ∙ ap (low 9) e)
    ∙ take-ones have (omega arith))
    (ones_fill 7 have h)

pub fill-window : (held have w : ℕ) → Window held have w → Fill 7 (low have held) → w ≡ 511
unfolding value
fill-window held have w v f =
    sym (value_low 9 w ∙ mod-eq_of_lt v.small)
    ∙ ap value
    (v.nine
    ∙ ap (λ (l : List ℕ). take 9 (l ++ replicate 9 1)) f.ones
    ∙ ap (take 9) (replicate-append-replicate (length (low have held)) 9 1)
    ∙ ap (λ (n : ℕ). take 9 (replicate n 1)) (add_comm (length (low have held)) 9)
    ∙ ap (take 9) (sym (replicate-append-replicate 9 (length (low have held)) 1))
    ∙ take_at (replicate 9 1) (replicate (length (low have held)) 1) 9 refl)
