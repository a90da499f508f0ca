-- The text of data, measured and put into a buffer.
-- Assumes nothing.
use Rattle.std.specs.Prelude.{List, ◌≡◌, ℕ, ◌≤◌, length, Ok, Err}
use Rattle.header.specs.declared.Format.{Format}
use Rattle.codes.specs.Steps.Laid.{Fronted}
use Rattle.codes.specs.Steps.Measure.{Measured}
use Rattle.formats.specs.Data.{Carries, CarriesIn, UnreadableAfter}

-- the data carries a text of this length in so many codes, or is malformed at this bit behind so many
abbrev pub MeasuresData : Format → List ℕ → Measured → Type 0
MeasuresData format carried (Ok e) = (text : List ℕ) × (length text ≡ e.characters) × CarriesIn format carried text e.codes
MeasuresData format carried (Err at) = UnreadableAfter format carried at.bit at.codes

-- the data carries a text that there is room for
pub record HasRoom (format : Format) (carried : List ℕ) (room : ℕ) : Type 0 where
  pub text : List ℕ
  pub carries : Carries format text carried
  pub fits : length text ≤ room

-- the text that the data carries stands at the front of the buffer, r characters, and nothing else changed
pub record PutsText (format : Format) (carried entry exit : List ℕ) (r : ℕ) : Type 0 where
  pub text : List ℕ
  pub carries : Carries format text carried
  pub front : Fronted text entry exit r
