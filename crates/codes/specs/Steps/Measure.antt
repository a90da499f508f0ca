-- What measuring a row of bits comes to, and data of any length taken apart.
-- Assumes nothing.
use Rattle.std.specs.Prelude.{◌≡◌, List, ℕ, ◌+◌, ◌^◌, ◌≤◌, ◌<◌, length, Result, Ok, Err}
use Rattle.codes.specs.Chain.{Scheme, Builds, Stuck, count_in, count_before}
use Rattle.codes.specs.declared.Extent.{Extent}
use Rattle.codes.specs.declared.MalformedAt.{MalformedAt}
use Rattle.codes.specs.declared.Unread.{Unread}
use Rattle.codes.specs.declared.Unread.TheVariants.{Malformed, TooLong}

-- what measuring comes to, and taking apart
abbrev pub Measured : Type 0
Measured = Result Extent MalformedAt

abbrev pub Outcome : Type 0
Outcome = Result Extent Unread

-- so many characters in so many codes; and so many codes before this bit
abbrev pub extent : (n codes : ℕ) → Extent
extent n codes = record { characters = n; codes = codes }

abbrev pub malformed_at : (bit codes : ℕ) → MalformedAt
malformed_at bit codes = record { bit = bit; codes = codes }

-- a building with so many codes
abbrev pub BuildsIn : Scheme → ℕ → List ℕ → List ℕ → ℕ → Type 0
BuildsIn scheme m bs text codes = (built : Builds scheme m bs text) × (count_in built ≡ codes)

-- a reading that is stuck behind so many
abbrev pub StuckAfter : Scheme → ℕ → List ℕ → ℕ → ℕ → Type 0
StuckAfter scheme m bs i codes = (stuck : Stuck scheme m bs i) × (count_before stuck ≡ codes)

-- the bits are a building of a text of this length, or the reading is stuck at this bit
abbrev pub Measures : Scheme → List ℕ → Measured → Type 0
Measures scheme bs (Ok e) = (text : List ℕ) × (length text ≡ e.characters) × BuildsIn scheme 0 bs text e.codes
Measures scheme bs (Err at) = StuckAfter scheme 0 bs at.bit at.codes

-- what bits come to, told of a row that has bits in front of them: `at` bits, which have so many codes and say n characters
abbrev pub with_front : (n codes at : ℕ) → Measured → Measured
with_front n codes at (Ok e) = Ok (extent (n + e.characters) (codes + e.codes))
with_front n codes at (Err m) = Err (malformed_at (at + m.bit) (codes + m.codes))

-- the numbers that this asks for, in 64 bits
abbrev pub FrontFits : (n codes at : ℕ) → Measured → Type 0
FrontFits n codes at (Ok e) = (n + e.characters < 2 ^ 64) × (codes + e.codes < 2 ^ 64)
FrontFits n codes at (Err m) = (at + m.bit < 2 ^ 64) × (codes + m.codes < 2 ^ 64)

-- data of fewer bytes has fewer bits than a number of 64 bits counts, and fewer characters where a scheme says at most 32 for a bit
abbrev pub countable : ℕ
countable = 2 ^ 56

-- data of so many bytes taken apart, by which texts it carries and at which bits it is malformed, with how many codes: the length of its text, or the
-- malformed bit, and the codes; or that the data is so long that they may not be counted
abbrev pub TakesApart : (List ℕ → ℕ → Type 0) → (ℕ → ℕ → Type 0) → ℕ → Outcome → Type 0
TakesApart Carried Place size (Ok e) = (size < countable) × ((text : List ℕ) × (length text ≡ e.characters) × Carried text e.codes)
TakesApart Carried Place size (Err (Malformed at)) = (size < countable) × Place at.bit at.codes
TakesApart Carried Place size (Err TooLong) = countable ≤ size
