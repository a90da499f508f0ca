-- Bits of a number in a row, and bits in bytes, the most significant first (001, 4.2.1 and 4.5; RULES, Packet).
-- Assumes nothing.
use Rattle.std.specs.Prelude.{List, [], ◌∷◌, ◌++◌, ℕ, zero, suc, ◌+◌, ◌-◌, ◌*◌, ◌/◌, ◌%◌, ◌^◌, ◌<◌, length, take, drop, replicate}
use Rattle.bits.specs.Word.{bit}
use Rattle.codes.specs.Chain.{Entry, codes}

-- a row of bits: each is 0 or 1
abbrev pub Binary : List ℕ → Type 0
Binary [] = Unit {0}
Binary (b ∷ bs) = (b < 2) × Binary bs

-- the lowest n bits of v, top first
unfoldable pub low : ℕ → ℕ → List ℕ
low zero v = []
low (suc n) v = bit n v ∷ low n v

-- the number that a row of bits is, top first
unfoldable pub value : List ℕ → ℕ
value [] = 0
value (b ∷ bs) = b * 2 ^ length bs + value bs

-- n bytes out of a row of bits
unfoldable pub bytes : ℕ → List ℕ → List ℕ
bytes zero bs = []
bytes (suc n) bs = value (take 8 bs) ∷ bytes n (drop 8 bs)

-- the bits in bytes, for whole bytes of them
unfoldable pub packed : List ℕ → List ℕ
packed bs = bytes (length bs / 8) bs

-- how many bits are left from bit n up to the byte's end
unfoldable pub gap : ℕ → ℕ
gap n = (8 - n % 8) % 8

-- the bits, then ones up to the byte's end (001, 4.4 and 4.5; RULES, Formats)
unfoldable pub filled : List ℕ → List ℕ
filled bs = bs ++ replicate (gap (length bs)) 1

-- the data of these entries: their codes in a row, then fill, in bytes
unfoldable pub written : List Entry → List ℕ
written es = packed (filled (codes es))
