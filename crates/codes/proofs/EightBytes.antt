-- Bytes of a row as one number, a number shifted to the top of a word, and bytes out of a number.
-- Assumes nothing.
use mathlib.Core.Path.{◌≡◌, refl, sym, ap, ap₂, ◌∙◌}
use mathlib.Core.List.{List, ◌++◌}
use Prim.Native.Nat.{ℕ, ◌+◌, ◌-◌, ◌*◌, ◌/◌, ◌%◌, ◌^◌, ◌≤◌, ◌<◌}
use native.Mathlib.Nat.{mod-eq_of_lt, mul_assoc}
use native.Mathlib.Omega.{arith}
use lib.Dec.{lit≤}
use lib.ListN.{length, drop, get_or, set}
use lib.Pow.{field, mod-mod-pow, pow-add, shr-shr, shl-shr}
use Rattle.bits.specs.Row.{bits}
use Rattle.codes.specs.Steps.BitBuffer.{ahead}
use Rattle.codes.specs.Pack.{low}
use Rattle.codes.specs.Steps.EightBytes.{four_at, eight_at, spilled}
use Rattle.codes.proofs.BitBuffer.{ahead-four}
use Rattle.codes.proofs.LowBits.{shl-mod}

-- the same with its places as they come
pub four-at : (s : List ℕ) (q b d e : ℕ) → b ≡ q + 1 → d ≡ q + 2 → e ≡ q + 3
    → (get_or s q 0 * 256 + get_or s b 0) * 65536 + (get_or s d 0 * 256 + get_or s e 0) ≡ four_at s q
unfolding four_at
four-at s q b d e x y z =
    ap (λ (n : ℕ). (get_or s q 0 * 256 + get_or s n 0) * 65536 + (get_or s d 0 * 256 + get_or s e 0)) x
    ∙ ap₂ (λ (m n : ℕ). (get_or s q 0 * 256 + get_or s (q + 1) 0) * 65536 + (get_or s m 0 * 256 + get_or s n 0)) y z

-- four bytes of a row are less than 2^32
pub four-small : (s : List ℕ) (q : ℕ) → ((i : ℕ) → get_or s i 0 < 256) → four_at s q < 4294967296
unfolding four_at
four-small s q bytes = omega (arith, bytes q, bytes (q + 1), bytes (q + 2), bytes (q + 3))

-- eight bytes as a number are their bits
pub eight-bits : (s : List ℕ) (q : ℕ) → q + 8 ≤ length s → ((i : ℕ) → get_or s i 0 < 256)
    → low 64 (eight_at s q) ++ bits (drop (q + 8) s) ≡ bits (drop q s)
unfolding ahead low four_at eight_at
eight-bits s q h bytes =
    let upper : ℕ = four_at s q in
    let lower : ℕ = four_at s (q + 4) in
    let fit : upper % 4294967296 ≡ upper = mod-eq_of_lt (four-small s q bytes) in
    ap₂ (λ (x n : ℕ). ahead s (x * 4294967296 + lower) 64 n) (sym fit) (let e : q + 8 ≡ q + 4 + 4 = omega arith in e)
    ∙ ahead-four s upper 32 (q + 4) lower (lit≤ tt) (omega arith) bytes refl
    ∙ ap (λ (x : ℕ). ahead s x 32 (q + 4)) (let e : upper ≡ 0 % 4294967296 * 4294967296 + upper = omega arith in e)
    ∙ ahead-four s 0 0 q upper (lit≤ tt) (omega arith) bytes refl

-- a number shifted to the top of a word, and n bits taken there
pub shifted_down : (v k n m : ℕ) → k + (n + m) ≡ 64 → v * 2 ^ k % 2 ^ 64 / 2 ^ (64 - n) ≡ v / 2 ^ m % 2 ^ n
shifted_down v k n m e =
    ap₂ (λ (i j : ℕ). v * 2 ^ k % 2 ^ i / 2 ^ j) (let x : 64 ≡ n + m + k = omega arith in x) (let x : 64 - n ≡ k + m = omega arith in x)
    ∙ ap (λ (x : ℕ). x / 2 ^ (k + m)) (shl-mod v (n + m) k)
    ∙ sym (shr-shr (v % 2 ^ (n + m) * 2 ^ k) k m)
    ∙ ap (λ (x : ℕ). x / 2 ^ m) (shl-shr (v % 2 ^ (n + m)) k)
    ∙ field v n m

-- and shifted further
pub shifted-on : (v k n : ℕ) → n ≤ 64 → v * 2 ^ k % 2 ^ 64 * 2 ^ n % 2 ^ 64 ≡ v * 2 ^ (k + n) % 2 ^ 64
shifted-on v k n h =
    let m : ℕ = 64 - n in
    let size : 64 ≡ m + n = omega arith in
    let split : (x : ℕ) → x * 2 ^ n % 2 ^ 64 ≡ x % 2 ^ m * 2 ^ n = λ x. ap (λ (i : ℕ). x * 2 ^ n % 2 ^ i) size ∙ shl-mod x m n in
    split (v * 2 ^ k % 2 ^ 64)
    ∙ ap (λ (x : ℕ). x * 2 ^ n)
    (ap (λ (i : ℕ). v * 2 ^ k % 2 ^ i % 2 ^ m) (let e : 64 ≡ n + m = omega arith in e) ∙ mod-mod-pow (v * 2 ^ k) n m)
    ∙ sym (split (v * 2 ^ k))
    ∙ ap (λ (x : ℕ). x % 2 ^ 64) (mul_assoc v (2 ^ k) (2 ^ n) ∙ ap (λ (x : ℕ). v * x) (sym (pow-add 2 k n)))

-- the n bits at the top of a word to which the lowest `left` bits of a number are shifted
pub top-bits : (held left top n : ℕ) → n ≤ left → left ≤ 64 → top ≡ held * 2 ^ (64 - left) % 2 ^ 64
    → top / 2 ^ (64 - n) ≡ held / 2 ^ (left - n) % 2 ^ n
top-bits held left top n h k e = ap (λ (x : ℕ). x / 2 ^ (64 - n)) e ∙ shifted_down held (64 - left) n (left - n) (omega arith)

-- the word is shifted on by the bits that were passed
pub top-on : (held left top width : ℕ) → width ≤ left → left ≤ 64 → top ≡ held * 2 ^ (64 - left) % 2 ^ 64
    → top * 2 ^ width % 2 ^ 64 ≡ held * 2 ^ (64 - (left - width)) % 2 ^ 64
top-on held left top width h k e =
    ap (λ (x : ℕ). x * 2 ^ width % 2 ^ 64) e
    ∙ shifted-on held (64 - left) width (omega arith)
    ∙ ap (λ (n : ℕ). held * 2 ^ n % 2 ^ 64) (let x : 64 - left + width ≡ 64 - (left - width) = omega arith in x)

-- one number stored, by what it is, in a place, by where it is
store : {l d : List ℕ} {s t u v : ℕ} → l ≡ d → s ≡ t → u ≡ v → set l s u ≡ set d t v
store {d = d} {t = t} {u = u} f g h = ap₂ (λ (z : List ℕ) (w : ℕ). set z w u) f g ∙ ap (set d t) h

-- four bytes out of a number, stored one by one, with the numbers and places as they come
pub spill-four : (out : List ℕ) (n held have shift a b c i j k : ℕ) → shift + 32 ≡ have → i ≡ n + 1 → j ≡ n + 1 + 1 → k ≡ n + 1 + 1 + 1
    → a ≡ held / 2 ^ shift / 16777216 % 256 → b ≡ held / 2 ^ shift / 65536 % 256 → c ≡ held / 2 ^ shift / 256 % 256
    → set (set (set (set out n a) i b) j c) k (held / 2 ^ shift % 256) ≡ spilled 4 out n held have
unfolding spilled
spill-four out n held have shift a b c i j k e x y z p q r =
    let byte : (w m : ℕ) → shift + w ≡ m → held / 2 ^ shift / 2 ^ w % 256 ≡ held / 2 ^ m % 256 =
    λ w m u. ap (λ (v : ℕ). v % 256) (shr-shr held shift w ∙ ap (λ (v : ℕ). held / 2 ^ v) u) in
    store
    (store (store (ap (set out n) (p ∙ byte 24 (have - 8) (omega arith))) x (q ∙ byte 16 (have - 8 - 8) (omega arith))) y
    (r ∙ byte 8 (have - 8 - 8 - 8) (omega arith)))
    z (ap (λ (v : ℕ). held / 2 ^ v % 256) (let u : shift ≡ have - 8 - 8 - 8 - 8 = omega arith in u))
