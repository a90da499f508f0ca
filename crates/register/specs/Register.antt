-- The register of the 16-bit checksum (document 001, 3.3). The document gives the polynomial 0xd175.
-- The sum of powers printed before that number, x^16 + x^15 + x^13 + x^9 + x^7 + x^6 + x^5 + x^3 + x + 1, would be A2EB without its highest power.
-- The published packets decide: 0xd175 is the feedback, the register starts at all ones, each byte enters at its top, highest
-- bit first, and nothing is inverted or turned round at the end.
-- Assumes nothing.
use Rattle.std.specs.Prelude.{List, [], ◌∷◌, ℕ, zero, suc, ◌*◌, ◌/◌, ◌%◌, ◌^◌}
use Rattle.std.specs.Int.Bits.{bit_xor}

-- the polynomial, without its highest power
unfoldable pub feedback : ℕ
feedback = 0xD175

unfoldable pub start : ℕ
start = 0xFFFF

-- the register moves up by one bit; a one that leaves at its top feeds back
unfoldable pub bit_step : ℕ → ℕ
bit_step r = bit_xor (r * 2 % 2 ^ 16) (r / 2 ^ 15 % 2 * feedback)

-- so many bit steps
unfoldable pub bit_steps : ℕ → ℕ → ℕ
bit_steps zero r = r
bit_steps (suc n) r = bit_steps n (bit_step r)

-- a byte enters at the register's top, and its eight bits pass, highest first
unfoldable pub byte_step : ℕ → ℕ → ℕ
byte_step r b = bit_steps 8 (bit_xor r (b * 2 ^ 8))

-- the register after a row of bytes, from what it held before
unfoldable pub checksum_from : ℕ → List ℕ → ℕ
checksum_from r [] = r
checksum_from r (b ∷ s) = checksum_from (byte_step r b) s
