-- Eight bytes as one number, and the lowest six bits of each gathered, four and four in a row.
-- Assumes nothing.
use mathlib.Core.Path.{◌≡◌, ap, ap₂, ◌∙◌}
use mathlib.Core.List.{List}
use Prim.Native.Nat.{ℕ, ◌+◌, ◌*◌, ◌/◌, ◌%◌, ◌<◌}
use native.Mathlib.Omega.{arith}
use lib.Bits.{bit_and, and_block, and_high, and_mask}
use lib.Dec.{lit<}
use lib.ListN.{get_or}
use Rattle.codes.specs.Steps.EightBytes.{four_at, eight_at}
use Rattle.codes.proofs.EightBytes.{four-small}
use Rattle.pseudo_binary_writer.specs.Steps.Sending.{four_values}

-- six bits out of each of two bytes
upper-six : (a b : ℕ) → b < 256 → bit_and (a * 256 + b) 0x3f00 ≡ a % 64 * 256
upper-six a b h = and_high (a * 256 + b) 6 8 ∙ (let e : (a * 256 + b) / 256 % 64 * 256 ≡ a % 64 * 256 = omega arith in e)

lower-six : (a b : ℕ) → bit_and (a * 256 + b) 0x3f ≡ b % 64
lower-six a b = and_mask (a * 256 + b) 6 ∙ (let e : (a * 256 + b) % 64 ≡ b % 64 = omega arith in e)

-- twelve bits out of each of two pairs of bytes
upper-twelve : (a b : ℕ) → a < 4096 → b < 4096 → bit_and (a * 65536 + b) 0x0fff0000 ≡ a * 65536
upper-twelve a b h k =
    and_high (a * 65536 + b) 12 16 ∙ (let e : (a * 65536 + b) / 65536 % 4096 * 65536 ≡ a * 65536 = omega arith in e)

lower-twelve : (a b : ℕ) → a < 4096 → b < 4096 → bit_and (a * 65536 + b) 0x0fff ≡ b
lower-twelve a b h k = and_mask (a * 65536 + b) 12 ∙ (let e : (a * 65536 + b) % 4096 ≡ b = omega arith in e)

-- the code's steps
abbrev pub pairs : ℕ → ℕ
pairs x = bit_and x 0x3f003f003f003f00 / 4 + bit_and x 0x003f003f003f003f

abbrev pub fours : ℕ → ℕ
fours x = bit_and x 0x0fff00000fff0000 / 16 + bit_and x 0x00000fff00000fff

module _ (s : List ℕ) (bytes : (i : ℕ) → get_or s i 0 < 256) where
  -- the values of two bytes as one number
  two : ℕ → ℕ → ℕ
  two a b = get_or s a 0 % 64 * 64 + get_or s b 0 % 64

  two-small : (a b : ℕ) → two a b < 4096
  unfolding two
  two-small a b = omega arith

  -- and of four, with a gap between two and two
  twos : ℕ → ℕ
  twos q = two q (q + 1) * 65536 + two (q + 2) (q + 3)

  twos_small : (q : ℕ) → twos q < 4294967296
  unfolding twos
  twos_small q = omega (arith, two-small q (q + 1), two-small (q + 2) (q + 3))

  two_bytes : (q : ℕ) → get_or s (q + 2) 0 * 256 + get_or s (q + 3) 0 < 65536
  two_bytes q = omega (arith, bytes (q + 2), bytes (q + 3))

  upper-of-four : (q : ℕ) → bit_and (four_at s q) 0x3f003f00 ≡ get_or s q 0 % 64 * 256 * 65536 + get_or s (q + 2) 0 % 64 * 256
  unfolding four_at
  upper-of-four q =
      and_block 16 (get_or s q 0 * 256 + get_or s (q + 1) 0) 0x3f00 (get_or s (q + 2) 0 * 256 + get_or s (q + 3) 0) 0x3f00 (two_bytes q) (lit< tt)
      ∙ ap₂ (λ (a b : ℕ). a * 65536 + b) (upper-six (get_or s q 0) (get_or s (q + 1) 0) (bytes (q + 1)))
      (upper-six (get_or s (q + 2) 0) (get_or s (q + 3) 0) (bytes (q + 3)))

  lower-of-four : (q : ℕ) → bit_and (four_at s q) 0x003f003f ≡ get_or s (q + 1) 0 % 64 * 65536 + get_or s (q + 3) 0 % 64
  unfolding four_at
  lower-of-four q =
      and_block 16 (get_or s q 0 * 256 + get_or s (q + 1) 0) 0x3f (get_or s (q + 2) 0 * 256 + get_or s (q + 3) 0) 0x3f (two_bytes q) (lit< tt)
      ∙ ap₂ (λ (a b : ℕ). a * 65536 + b) (lower-six (get_or s q 0) (get_or s (q + 1) 0)) (lower-six (get_or s (q + 2) 0) (get_or s (q + 3) 0))

  pairs-are : (q : ℕ) → pairs (eight_at s q) ≡ twos q * 4294967296 + twos (q + 4)
  unfolding eight_at twos two
  pairs-are q =
      let small : four_at s (q + 4) < 4294967296 = four-small s (q + 4) bytes in
      omega (
        arith,
        and_block 32 (four_at s q) 0x3f003f00 (four_at s (q + 4)) 0x3f003f00 small (lit< tt),
        and_block 32 (four_at s q) 0x003f003f (four_at s (q + 4)) 0x003f003f small (lit< tt),
        upper-of-four q,
        lower-of-four q,
        upper-of-four (q + 4),
        lower-of-four (q + 4),
      )

  upper-of-twos : (q : ℕ) → bit_and (twos q) 0x0fff0000 ≡ two q (q + 1) * 65536
  unfolding twos
  upper-of-twos q = upper-twelve (two q (q + 1)) (two (q + 2) (q + 3)) (two-small q (q + 1)) (two-small (q + 2) (q + 3))

  lower-of-twos : (q : ℕ) → bit_and (twos q) 0x0fff ≡ two (q + 2) (q + 3)
  unfolding twos
  lower-of-twos q = lower-twelve (two q (q + 1)) (two (q + 2) (q + 3)) (two-small q (q + 1)) (two-small (q + 2) (q + 3))

  pub gathered : (q : ℕ) → fours (pairs (eight_at s q)) ≡ four_values s q * 4294967296 + four_values s (q + 4)
  unfolding two
  gathered q =
      ap fours (pairs-are q)
      ∙ omega (
        arith,
        and_block 32 (twos q) 0x0fff0000 (twos (q + 4)) 0x0fff0000 (twos_small (q + 4)) (lit< tt),
        and_block 32 (twos q) 0x0fff (twos (q + 4)) 0x0fff (twos_small (q + 4)) (lit< tt),
        upper-of-twos q,
        lower-of-twos q,
        upper-of-twos (q + 4),
        lower-of-twos (q + 4),
      )

-- four values take 24 bits, so the halves are those of the first four and of the others
pub four-values-small : (s : List ℕ) (q : ℕ) → four_values s q < 16777216
four-values-small s q = omega arith

module _ (s : List ℕ) (q x : ℕ) (e : x ≡ four_values s q * 4294967296 + four_values s (q + 4)) where
  pub upper-half : x / 4294967296 ≡ four_values s q
  upper-half = omega (arith, e, four-values-small s (q + 4))

  pub lower-half : x % 4294967296 ≡ four_values s (q + 4)
  lower-half = omega (arith, e, four-values-small s (q + 4))
