-- What a text asks before it is written, as functions answer it: a code for each character, and data of no more bytes than a caller allows.
-- Assumes nothing.
use Rattle.std.specs.Prelude.{Bool, List, ◌≡◌, ℕ, ◌≤◌, ◌<◌, length, Option, Some, None, Result, Ok, Err}
use Rattle.codes.specs.Coded.{CodedBelow, FirstUncoded}
use Rattle.codes.specs.declared.Unfit.{Unfit}
use Rattle.codes.specs.declared.Unfit.TheVariants.{NoCode, TooMany}

-- the index of the first character that has no code, or that there is none
abbrev pub FindsUncoded : (List ℕ → ℕ → Bool) → List ℕ → Option ℕ → Type 0
FindsUncoded has text (Some index) = FirstUncoded has text index
FindsUncoded has text None = CodedBelow has text (length text)

-- how many bytes, or why none
abbrev pub Needed : Type 0
Needed = Result ℕ Unfit

-- how many bytes the data has that our writer makes of the text; or the index of the first character that has no code; or that the bytes are more than
-- the most that may be
abbrev pub Needs : ℕ → (List ℕ → ℕ → Bool) → List ℕ → List ℕ → Needed → Type 0
Needs most has text carried (Err (NoCode index)) = FirstUncoded has text index
Needs most has text carried (Err TooMany) = CodedBelow has text (length text) × (most < length carried)
Needs most has text carried (Ok n) = CodedBelow has text (length text) × (n ≡ length carried) × (n ≤ most)
