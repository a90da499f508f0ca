-- The formats and their numbers (001, 3.1, Table 2): type 10 is binary; extended type 000 is Open, 001 Compact Pseudo Binary, 010 Compact
-- Numeric ASCII, 011 Compact SHEF Alphanumeric ASCII, 100 Compact Full ASCII.
-- Assumes nothing.
use Rattle.std.specs.Prelude.{false, ◌≡◌, ℕ, Option, Some, None}
use Rattle.header.specs.declared.Format.{Format}
use Rattle.header.specs.declared.Format.TheVariants.{Open, PseudoBinary, Numeric, Shef, FullAscii}
use Rattle.header.specs.declared.Header.{Header}

abbrev pub format_number : Format → ℕ
format_number Open = 0
format_number PseudoBinary = 1
format_number Numeric = 2
format_number Shef = 3
format_number FullAscii = 4

-- one of our formats, or none
abbrev pub WhichFormat : Type 0
WhichFormat = Option Format

-- the format of a number, or that there is none
abbrev pub FormatOfNumber : ℕ → WhichFormat → Type 0
FormatOfNumber number (Some format) = format_number format ≡ number
FormatOfNumber number None = (format : Format) → format_number format ≡ number → ⊥

-- the header is of this format: the spare bit 0, type binary, and the format's extended type
pub record HasFormat (f : Header) (format : Format) : Type 0 where
  pub spare : f.spare ≡ false
  pub message_type : f.message_type ≡ 2
  pub extended_type : f.extended_type ≡ format_number format

-- what the type bits say
abbrev pub FormatInHeader : Header → WhichFormat → Type 0
FormatInHeader f (Some format) = HasFormat f format
FormatInHeader f None = (format : Format) → HasFormat f format → ⊥
