-- The codes of Compact Full ASCII (001, 4.5).
-- Assumes nothing.
use Rattle.std.specs.Prelude.{List, [], ◌∷◌, ◌++◌, map, ℕ, ◌-◌, replicate}
use Rattle.codes.specs.Chain.{Entry, Scheme, single}
pub use Rattle.codes.specs.LineEnds.{LF, CR}
use Rattle.bits.specs.Numbers.{numbers}
use Rattle.codes.specs.Pack.{low}

abbrev pub HT : ℕ
HT = 9

-- a six-bit code, the character less 32
unfoldable pub six : ℕ → Entry
six c = record { code = low 6 (c - 32); says = c ∷ []; announces = 0 }

-- a seven-bit code, the character itself
unfoldable pub seven : ℕ → Entry
seven c = record { code = low 7 c; says = c ∷ []; announces = 0 }

-- seven ones, then the two bits of k
unfoldable pub special : ℕ → List ℕ → Entry
special k text = record { code = replicate 7 1 ++ low 2 k; says = text; announces = 0 }

-- CR with LF after it, in one code
unfoldable pub pair : Entry
pair = special 3 (CR ∷ LF ∷ [])

-- characters 32 to 63, characters 64 to 126, then HT, CR, LF, and CR with LF after it
unfoldable pub table : List Entry
table =
    map six (numbers 32 32)
    ++ (map seven (numbers 64 63) ++ (special 0 (HT ∷ []) ∷ special 1 (CR ∷ []) ∷ special 2 (LF ∷ []) ∷ pair ∷ []))

-- nothing is announced: one table. Seven bits of the last byte or fewer are unused, and ones
abbrev pub scheme : Scheme
scheme = single table 7
