-- What the data of each format is: the text that it carries, where it is malformed, which characters have codes, what our writer makes of a text, and
-- what that text comes back as.
-- Assumes nothing.
use Rattle.std.specs.Prelude.{Bool, true, List, ◌≡◌, ℕ, length}
use Rattle.header.specs.declared.Format.{Format}
use Rattle.header.specs.declared.Format.TheVariants.{Open, PseudoBinary, Numeric, Shef, FullAscii}
use Rattle.bits.specs.Row.{bits}
use Rattle.codes.specs.Chain.{Built, Malformed, count_in, count_before, bits_in}
use Rattle.codes.specs.Coded.{alone, CodedBelow, FirstUncoded}
use Rattle.codes.specs.Pack.{written}
use Rattle.full_ascii.specs.Table as ascii
use Rattle.full_ascii.specs.Writer as ascii-writer
use Rattle.numeric.specs.Table as numeric
use Rattle.numeric.specs.Data as numeric-data
use Rattle.numeric.specs.Writer as numeric-writer
use Rattle.pseudo_binary.specs.Table as pseudo
use Rattle.pseudo_binary.specs.Writer as pseudo-writer
use Rattle.shef.specs.Table as shef
use Rattle.shef.specs.Writer as shef-writer

-- the data is what a maker may build of the text. Open: the data bytes are the text
abbrev pub Carries : Format → List ℕ → List ℕ → Type 0
Carries Open text carried = carried ≡ text
Carries PseudoBinary text carried = Built pseudo.scheme text carried
Carries Numeric text carried = numeric-data.Built text carried
Carries Shef text carried = Built shef.scheme text carried
Carries FullAscii text carried = Built ascii.scheme text carried

-- the data is malformed, and its first unreadable indicator, value or code starts at this bit. Open data never is
abbrev pub Unreadable : Format → List ℕ → ℕ → Type 0
Unreadable Open carried i = ⊥
Unreadable PseudoBinary carried i = Malformed pseudo.scheme carried i
Unreadable Numeric carried i = Malformed numeric.scheme carried i
Unreadable Shef carried i = Malformed shef.scheme carried i
Unreadable FullAscii carried i = Malformed ascii.scheme carried i

-- how many indicators, values and codes the data has that carries a text: those of the building. Open has none
abbrev pub codes_in : (format : Format) (text carried : List ℕ) → Carries format text carried → ℕ
codes_in Open text carried built = 0
codes_in PseudoBinary text carried built = count_in built
codes_in Numeric text carried built = count_in built.codes
codes_in Shef text carried built = count_in built
codes_in FullAscii text carried built = count_in built

-- how many bits of it stand before its fill: those of the building's codes. Open has no fill
abbrev pub bits_before_fill : (format : Format) (text carried : List ℕ) → Carries format text carried → ℕ
bits_before_fill Open text carried built = length (bits carried)
bits_before_fill PseudoBinary text carried built = bits_in built
bits_before_fill Numeric text carried built = bits_in built.codes
bits_before_fill Shef text carried built = bits_in built
bits_before_fill FullAscii text carried built = bits_in built

-- how many codes come before the first that is unreadable
abbrev pub codes_before : (format : Format) (carried : List ℕ) (i : ℕ) → Unreadable format carried i → ℕ
codes_before Open carried i stuck = 0
codes_before PseudoBinary carried i stuck = count_before stuck
codes_before Numeric carried i stuck = count_before stuck
codes_before Shef carried i stuck = count_before stuck
codes_before FullAscii carried i stuck = count_before stuck

-- the data carries the text in so many codes
abbrev pub CarriesIn : Format → List ℕ → List ℕ → ℕ → Type 0
CarriesIn format carried text codes = (built : Carries format text carried) × (codes_in format text carried built ≡ codes)

-- the data is malformed at this bit, behind so many codes
abbrev pub UnreadableAfter : Format → List ℕ → ℕ → ℕ → Type 0
UnreadableAfter format carried i codes = (stuck : Unreadable format carried i) × (codes_before format carried i stuck ≡ codes)

-- whether the character has a code, by what stands before it in the text and by itself: in Numeric by the character right before it and by
-- itself, in the others by itself alone, and in Open each has one
abbrev pub coded : Format → List ℕ → ℕ → Bool
coded Open = alone (λ c. true)
coded PseudoBinary = alone pseudo.coded
coded Numeric = numeric-writer.coded
coded Shef = alone shef-writer.coded
coded FullAscii = alone ascii-writer.coded

-- each character of the text has a code
abbrev pub AllCoded : Format → List ℕ → Type 0
AllCoded format text = CodedBelow (coded format) text (length text)

-- the index of the first character that has none
abbrev pub Uncoded : Format → List ℕ → ℕ → Type 0
Uncoded format = FirstUncoded (coded format)

-- the data that our writer makes of a text that has codes
abbrev pub data_of : Format → List ℕ → List ℕ
data_of Open text = text
data_of PseudoBinary text = written (pseudo-writer.ours text)
data_of Numeric text = written (numeric-writer.ours text)
data_of Shef text = written (shef-writer.ours text)
data_of FullAscii text = written (ascii-writer.ours text)

-- how many codes it has
abbrev pub codes_of : Format → List ℕ → ℕ
codes_of Open text = 0
codes_of PseudoBinary text = length (pseudo-writer.ours text)
codes_of Numeric text = length (numeric-writer.ours text)
codes_of Shef text = length (shef-writer.ours text)
codes_of FullAscii text = length (ascii-writer.ours text)

-- what such a text comes back as when that data is read
abbrev pub comes_back : Format → List ℕ → List ℕ
comes_back Open text = text
comes_back PseudoBinary text = pseudo-writer.comes_back text
comes_back Numeric text = numeric-writer.comes_back text
comes_back Shef text = shef-writer.comes_back text
comes_back FullAscii text = ascii-writer.comes_back text
