-- The check bits (001, 3.2; RULES, Packet): BCH (31,21). Times 2^10 and divided as a polynomial over two values by
-- x^10 + x^9 + x^8 + x^6 + x^5 + x^3 + 1, the 21 information bits leave the 10 check bits as remainder.
-- A polynomial over two values is a number: its bit k is the coefficient of x^k. Sum and difference are the exclusive or.
-- Assumes nothing.
use Rattle.std.specs.Prelude.{List, [], ◌∷◌, ◌≡◌, ℕ, zero, suc, ◌+◌, ◌*◌, ◌/◌, ◌%◌, ◌^◌, ◌<◌, length}
use Rattle.std.specs.Int.Bits.{bit_xor}

unfoldable pub generator : ℕ
generator = 2 ^ 10 + 2 ^ 9 + 2 ^ 8 + 2 ^ 6 + 2 ^ 5 + 2 ^ 3 + 2 ^ 0

-- long division: for each power k from the highest down, where the coefficient of x^(k + 10) is 1, the generator times x^k is taken away
unfoldable pub remainder : ℕ → ℕ → ℕ
remainder zero p = p
remainder (suc k) p = remainder k (bit_xor p (p / 2 ^ (k + 10) % 2 * (generator * 2 ^ k)))

unfoldable pub check_of : ℕ → ℕ
check_of information = remainder 21 (information * 2 ^ 10)

-- ---- what makes it the remainder: the theorem `check-is-remainder` says that the check bits, and no other number, are left

-- a quotient is its coefficients, highest first, and each is 0 or 1
abbrev pub Coefficients : List ℕ → Type 0
Coefficients [] = Unit {0}
Coefficients (q ∷ qs) = (q < 2) × Coefficients qs

-- the generator times the quotient
unfoldable pub multiple : List ℕ → ℕ
multiple [] = 0
multiple (q ∷ qs) = bit_xor (q * (generator * 2 ^ length qs)) (multiple qs)

-- p divided by the generator leaves r: p is a multiple of the generator, and r, whose degree is lower than the generator's
pub record Leaves (p r : ℕ) : Type 0 where
  pub quotient : List ℕ
  pub coefficients : Coefficients quotient
  pub divided : p ≡ bit_xor (multiple quotient) r
  pub lower : r < 2 ^ 10
