-- Eight values of six bits in a row, spread to a byte each, and each made its character.
-- Assumes nothing.
use mathlib.Core.Path.{◌≡◌, sym, ap, ap₂, ◌∙◌}
use Prim.Native.Nat.{ℕ, ◌+◌, ◌-◌, ◌*◌, ◌/◌, ◌%◌, ◌^◌, ◌<◌}
use native.Mathlib.Nat.{mod-lt, zero-lt-suc}
use native.Mathlib.Omega.{arith}
use lib.Bits.{bit_and, and_le_r, and_block, and_high}
use lib.Dec.{lit<}
use Rattle.codes.specs.Steps.EightBytes.{eight_of}
use Rattle.codes.proofs.EachByte.{eight-sum, eight-difference, eight-each, eight-byte}
use Rattle.pseudo_binary.specs.Table.{character_of}
use Rattle.pseudo_binary.proofs.Characters.{character_of-turned}
use Rattle.pseudo_binary_reader.specs.Steps.Taken.{Spread}

-- the upper 12 of 24 bits in each half, and the upper six of 12 in each quarter
upper-twelve : (x y : ℕ) → x < 16777216 → y < 16777216
    → bit_and (x * 4294967296 + y) 72040001868656640 ≡ x / 4096 * 4096 * 4294967296 + y / 4096 * 4096
upper-twelve x y h k =
    and_block 32 x 16773120 y 16773120 (omega arith) (lit< tt)
    ∙ ap₂ (λ (a b : ℕ). a * 4294967296 + b)
    (and_high x 12 12 ∙ (let e : x / 4096 % 4096 * 4096 ≡ x / 4096 * 4096 = omega arith in e))
    (and_high y 12 12 ∙ (let e : y / 4096 % 4096 * 4096 ≡ y / 4096 * 4096 = omega arith in e))

upper-six : (x y : ℕ) → x < 64 → y < 64 → bit_and (x * 64 + y) 4032 ≡ x * 64
upper-six x y h k = and_high (x * 64 + y) 6 6 ∙ (let e : (x * 64 + y) / 64 % 64 * 64 ≡ x * 64 = omega arith in e)

-- eight numbers, each below 64
module _ (d : ℕ → ℕ) (small : (k : ℕ) → d k < 64) where
  -- in six bits each, with a gap between two and two
  pairs : ℕ
  pairs =
      ((d 0 * 64 + d 1) * 65536 + (d 2 * 64 + d 3)) * 4294967296 + ((d 4 * 64 + d 5) * 65536 + (d 6 * 64 + d 7))

  upper-two : (k : ℕ) → bit_and ((d k * 64 + d (k + 1)) * 65536 + (d (k + 2) * 64 + d (k + 3))) 264245184 ≡ d k * 64 * 65536 + d (k + 2) * 64
  upper-two k =
      and_block 16 (d k * 64 + d (k + 1)) 4032 (d (k + 2) * 64 + d (k + 3)) 4032 (omega (arith, small (k + 2), small (k + 3))) (lit< tt)
      ∙ ap₂ (λ (a b : ℕ). a * 65536 + b) (upper-six (d k) (d (k + 1)) (small k) (small (k + 1)))
      (upper-six (d (k + 2)) (d (k + 3)) (small (k + 2)) (small (k + 3)))

  upper-four : bit_and pairs 1134924423669747648 ≡ (d 0 * 64 * 65536 + d 2 * 64) * 4294967296 + (d 4 * 64 * 65536 + d 6 * 64)
  unfolding pairs
  upper-four =
      and_block 32 ((d 0 * 64 + d 1) * 65536 + (d 2 * 64 + d 3)) 264245184 ((d 4 * 64 + d 5) * 65536 + (d 6 * 64 + d 7)) 264245184
      (omega (arith, small 4, small 5, small 6, small 7)) (lit< tt)
      ∙ ap₂ (λ (a b : ℕ). a * 4294967296 + b) (upper-two 0) (upper-two 4)

  pairs-apart : pairs + bit_and pairs 1134924423669747648 * 3 ≡ eight_of d
  unfolding pairs eight_of
  pairs-apart = omega (arith, upper-four)

-- the character of a value, and the characters of eight, as the code has them
character : ℕ → ℕ
character v = v + (64 - bit_and (v + 1) 64)

character-is : (v : ℕ) → v < 64 → character v ≡ character_of v
unfolding character
character-is v h =
    (let e : v + (64 - bit_and (v + 1) 64) ≡ 63 + (v + 1) % 64 = omega (arith, and_high (v + 1) 1 6) in e) ∙ sym (character_of-turned v h)

characters : ℕ → ℕ
characters n = n + (0x4040404040404040 - bit_and (n + 0x0101010101010101) 0x4040404040404040)

module _ (d : ℕ → ℕ) (small : (k : ℕ) → d k < 64) where
  characters-each : characters (eight_of d) ≡ eight_of (λ k. character (d k))
  unfolding characters character eight_of
  characters-each =
      let n : ℕ = eight_of d in
      ap (λ (m : ℕ). n + (0x4040404040404040 - bit_and m 0x4040404040404040)) (eight-sum d (λ k. 1))
      ∙ ap (λ (m : ℕ). n + (0x4040404040404040 - m)) (eight-each bit_and and_block (λ k. d k + 1) (λ k. 64) (λ k. omega (arith, small k)) (λ k. lit< tt))
      ∙ ap (λ (m : ℕ). n + m) (eight-difference (λ k. 64) (λ k. bit_and (d k + 1) 64) (λ k. and_le_r (d k + 1) 64))
      ∙ eight-sum d (λ k. 64 - bit_and (d k + 1) 64)

  character-small : (k : ℕ) → character (d k) < 256
  unfolding character
  character-small k = omega (arith, small k)

  characters-bytes : (k : ℕ) → k < 8 → characters (eight_of d) / 2 ^ (56 - 8 * k) % 256 ≡ character_of (d k)
  characters-bytes k l =
      ap (λ (n : ℕ). n / 2 ^ (56 - 8 * k) % 256) characters-each
      ∙ eight-byte (λ k. character (d k)) character-small k l
      ∙ character-is (d k) (small k)

-- the code's steps: 48 bits in two halves, a gap in the middle of each, and then of each quarter
module _ (v : ℕ) (h : v < 281474976710656) where
  nth : ℕ → ℕ
  nth k = v / 2 ^ (42 - 6 * k) % 64

  nth-small : (k : ℕ) → nth k < 64
  unfolding nth
  nth-small k = mod-lt (v / 2 ^ (42 - 6 * k)) (zero-lt-suc 63)

  unfoldable pub halves : ℕ
  halves = v / 16777216 * 4294967296 + v % 16777216

  unfoldable pub quarters : ℕ
  quarters = halves + bit_and halves 72040001868656640 * 15

  unfoldable pub eighths : ℕ
  eighths = quarters + bit_and quarters 1134924423669747648 * 3

  quarters-are : quarters ≡ pairs nth nth-small
  unfolding quarters halves pairs nth
  quarters-are =
      ap (λ (n : ℕ). v / 16777216 * 4294967296 + v % 16777216 + n * 15) (upper-twelve (v / 16777216) (v % 16777216) (omega arith) (omega arith))
      ∙ (let e : v / 16777216 * 4294967296 + v % 16777216 + (v / 16777216 / 4096 * 4096 * 4294967296 + v % 16777216 / 4096 * 4096) * 15
      ≡ (v / 16777216 / 4096 * 65536 + v / 16777216 % 4096) * 4294967296 + (v % 16777216 / 4096 * 65536 + v % 16777216 % 4096) = omega arith in e)
      ∙ ap₂ (λ (x y : ℕ). x * 4294967296 + y)
      (ap₂ (λ (x y : ℕ). x * 65536 + y) (let e : v / 16777216 / 4096 ≡ v / 2 ^ 42 % 64 * 64 + v / 2 ^ 36 % 64 = omega arith in e)
      (let e : v / 16777216 % 4096 ≡ v / 2 ^ 30 % 64 * 64 + v / 2 ^ 24 % 64 = omega arith in e))
      (ap₂ (λ (x y : ℕ). x * 65536 + y) (let e : v % 16777216 / 4096 ≡ v / 2 ^ 18 % 64 * 64 + v / 2 ^ 12 % 64 = omega arith in e)
      (let e : v % 16777216 % 4096 ≡ v / 2 ^ 6 % 64 * 64 + v / 2 ^ 0 % 64 = omega arith in e))

  eighths-joined : eighths ≡ eight_of nth
  unfolding eighths
  eighths-joined = ap (λ (n : ℕ). n + bit_and n 1134924423669747648 * 3) quarters-are ∙ pairs-apart nth nth-small

  pub eighths-spread : {one : ℕ} → one ≡ 0x0101010101010101 → Spread v (eighths + (0x4040404040404040 - bit_and (eighths + one) 0x4040404040404040))
  unfolding nth characters
  eighths-spread is k l =
      ap (λ (n : ℕ). (eighths + (0x4040404040404040 - bit_and (eighths + n) 0x4040404040404040)) / 2 ^ (56 - 8 * k) % 256) is
      ∙ ap (λ (n : ℕ). characters n / 2 ^ (56 - 8 * k) % 256) eighths-joined ∙ characters-bytes nth nth-small k l
