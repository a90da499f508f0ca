-- The constant table has the entries of all bytes: each is computed.
-- Assumes nothing.
use mathlib.Core.Path.{◌≡◌, refl}
use Rattle.bits.specs.Numbers.{numbers}
use Rattle.numeric.specs.Steps.Text.{character}
use Rattle.numeric.specs.Table.{characters}
use Rattle.numeric_reader.specs.declared.entries.TheConstants.{ENTRIES}
use Rattle.numeric_reader.specs.Steps.Signs.{sign_if, sign, meet, one, entry_for, entry_of, entries}

pub entries-right : ENTRIES ≡ entries
unfolding entries entry_of entry_for meet one sign sign_if character characters numbers
entries-right = refl
