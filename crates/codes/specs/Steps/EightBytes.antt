-- Bytes of a row as one number, and bytes out of a number.
-- Assumes nothing.
use Rattle.std.specs.Prelude.{List, ℕ, zero, suc, ◌+◌, ◌-◌, ◌*◌, ◌/◌, ◌%◌, ◌^◌, get_or, set}

-- four bytes of s from place q on, the first highest
unfoldable pub four_at : List ℕ → ℕ → ℕ
four_at s q = (get_or s q 0 * 256 + get_or s (q + 1) 0) * 65536 + (get_or s (q + 2) 0 * 256 + get_or s (q + 3) 0)

-- and eight
unfoldable pub eight_at : List ℕ → ℕ → ℕ
eight_at s q = four_at s q * 4294967296 + four_at s (q + 4)

-- eight numbers, a byte each, the first highest
unfoldable pub eight_of : (ℕ → ℕ) → ℕ
eight_of d = ((d 0 * 256 + d 1) * 65536 + (d 2 * 256 + d 3)) * 4294967296 + ((d 4 * 256 + d 5) * 65536 + (d 6 * 256 + d 7))

-- k bytes of the lowest `have` bits of `held`, the upper first, stored from place n on
unfoldable pub spilled : ℕ → List ℕ → ℕ → ℕ → ℕ → List ℕ
spilled zero out n held have = out
spilled (suc k) out n held have = spilled k (set out n (held / 2 ^ (have - 8) % 256)) (n + 1) held (have - 8)
