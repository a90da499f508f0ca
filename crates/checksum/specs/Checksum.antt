-- The 16-bit checksum of a row of bytes (document 001, 3.3): what the register holds after them, and the order of its two bytes.
-- Assumes nothing.
use Rattle.std.specs.Prelude.{List, [], ◌∷◌, ℕ, ◌/◌, ◌%◌}
use Rattle.register.specs.Register.{start, checksum_from}

unfoldable pub checksum_of : List ℕ → ℕ
checksum_of s = checksum_from start s

-- the two bytes that follow the data: the least significant byte is transmitted first
unfoldable pub checksum_bytes : List ℕ → List ℕ
checksum_bytes s = checksum_of s % 256 ∷ checksum_of s / 256 ∷ []
