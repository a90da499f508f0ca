-- Parts of the data, 24 bytes each, that are taken side by side.
-- Assumes nothing.
use Rattle.std.specs.Prelude.{List, ◌≡◌, ℕ, ◌+◌, take, drop, get_or}
use Rattle.register.specs.Register.{byte_step, checksum_from}
use Rattle.register.specs.declared.Parts.{Parts}

-- a byte more in each of the four registers
pub record Turned (parts : Parts) (bytes : List ℕ) (i : ℕ) (turned : Parts) : Type 0 where
  pub first : turned.first ≡ byte_step parts.first (get_or bytes i 0)
  pub second : turned.second ≡ byte_step parts.second (get_or bytes (i + 24) 0)
  pub third : turned.third ≡ byte_step parts.third (get_or bytes (i + 48) 0)
  pub fourth : turned.fourth ≡ byte_step parts.fourth (get_or bytes (i + 72) 0)

-- what the first n bytes from a place on leave of a register
unfoldable pub part : ℕ → ℕ → List ℕ → ℕ → ℕ
part n r bytes i = checksum_from r (take n (drop i bytes))

-- so many bytes of each part; all registers but the first were empty
pub record SideBySide (n register : ℕ) (bytes : List ℕ) (i : ℕ) (parts : Parts) : Type 0 where
  pub first : parts.first ≡ part n register bytes i
  pub second : parts.second ≡ part n 0 bytes (i + 24)
  pub third : parts.third ≡ part n 0 bytes (i + 48)
  pub fourth : parts.fourth ≡ part n 0 bytes (i + 72)
