-- Bits put in at the lower end of what is held, and the byte at its upper end.
-- Assumes nothing.
use mathlib.Core.Path.{◌≡◌, sym, ap, ap₂, ◌∙◌}
use mathlib.Core.List.{List, [], ◌∷◌, ◌++◌, append_assoc}
use Prim.Native.Nat.{ℕ, zero, suc, ◌+◌, ◌-◌, ◌*◌, ◌/◌, ◌%◌, ◌^◌, ◌≤◌, ◌<◌}
use native.Mathlib.Nat.{mod-eq_of_lt}
use native.Mathlib.Numerals.{add-one}
use native.Mathlib.Omega.{arith}
use lib.Bits.{bit_or, or_shifted}
use lib.ListN.{length, take, drop, get_or, length-append, length-drop}
use lib.Pow.{high}
use lib.Seq.{drop-cons, take_at, drop_at}
use Rattle.bits.specs.Row.{bits, Bytes}
use Rattle.codes.specs.Pack.{low, value}
use Rattle.codes.proofs.LowBits.{length-low, low-mod, low-join, low-add, value_low, shl-mod}
use Rattle.codes.proofs.BitsInBytes.{bits-cons, length-bits}

pub pushed : (held bits width n r : ℕ) → width ≤ 32 → bits < 2 ^ width → n + width ≤ 64 → r ≡ bit_or (held * 2 ^ width % 2 ^ 64) bits
    → low (n + width) r ≡ low n held ++ low width bits
pushed held bits width n r h b k is =
    let rest : ℕ = 64 - width in
    let whole : rest + width ≡ 64 = omega arith in
    let sum : bit_or (held * 2 ^ width % 2 ^ 64) bits ≡ held % 2 ^ rest * 2 ^ width + bits =
    ap (λ (x : ℕ). bit_or x bits) (ap (λ (x : ℕ). held * 2 ^ width % 2 ^ x) (sym whole) ∙ shl-mod held rest width)
    ∙ or_shifted (held % 2 ^ rest) width bits b in
    ap (low (n + width)) (is ∙ sum)
    ∙ low-add n width (held % 2 ^ rest * 2 ^ width + bits)
    ∙ ap₂ (λ (x y : List ℕ). x ++ y)
    (ap (low n) (high (held % 2 ^ rest) width b)
    ∙ ap (λ (x : ℕ). low n (held % 2 ^ x)) (let e : rest ≡ (rest - n) + n = omega arith in e) ∙ low-mod n (rest - n) held)
    (low-join width (held % 2 ^ rest) bits b)

byte_at : (w : List ℕ) (i : ℕ) → Bytes w → i < length w → get_or w i 0 < 256
byte_at [] i b h = absurd (let no' : ⊥ = omega arith in no')
byte_at (x ∷ w) zero b h = b.0
byte_at (x ∷ w) (suc i) b h = byte_at w i b.1 (omega arith)

-- the next byte of a row is the upper end of what is pending
module _ (w : List ℕ) (at held have : ℕ) (rest : List ℕ) (bytes : Bytes w) (few : 8 ≤ have)
    (pending : bits (drop at w) ≡ low have held ++ rest) where
  pub byte-there : at < length w
  byte-there =
      omega (arith, ap length pending, length-bits (drop at w), length-drop at w, length-append (low have held) rest, length-low have held)

  split : low 8 (get_or w at 0) ++ bits (drop (suc at) w) ≡ low 8 (held / 2 ^ (have - 8)) ++ (low (have - 8) held ++ rest)
  split =
      sym (bits-cons (get_or w at 0) (drop (suc at) w))
      ∙ ap bits (sym (drop-cons w at 0 byte-there))
      ∙ pending
      ∙ ap (λ (l : List ℕ). l ++ rest)
      (ap (λ (n : ℕ). low n held) (let e : have ≡ 8 + (have - 8) = omega arith in e) ∙ low-add 8 (have - 8) held)
      ∙ append_assoc (low 8 (held / 2 ^ (have - 8))) (low (have - 8) held) rest

  front : low 8 (get_or w at 0) ≡ low 8 (held / 2 ^ (have - 8))
  front =
      sym (take_at (low 8 (get_or w at 0)) (bits (drop (suc at) w)) 8 (length-low 8 (get_or w at 0)))
      ∙ ap (take 8) split
      ∙ take_at (low 8 (held / 2 ^ (have - 8))) (low (have - 8) held ++ rest) 8 (length-low 8 (held / 2 ^ (have - 8)))

  pub next-byte : get_or w at 0 ≡ held / 2 ^ (have - 8) % 256
  next-byte =
      sym (value_low 8 (get_or w at 0) ∙ mod-eq_of_lt (byte_at w at bytes byte-there))
      ∙ ap value front ∙ value_low 8 (held / 2 ^ (have - 8))

  pub still-pending : bits (drop (at + 1) w) ≡ low (have - 8) held ++ rest
  still-pending =
      ap (λ (n : ℕ). bits (drop n w)) (add-one at)
      ∙ sym (drop_at (low 8 (get_or w at 0)) (bits (drop (suc at) w)) 8 (length-low 8 (get_or w at 0)))
      ∙ ap (drop 8) split
      ∙ drop_at (low 8 (held / 2 ^ (have - 8))) (low (have - 8) held ++ rest) 8 (length-low 8 (held / 2 ^ (have - 8)))
