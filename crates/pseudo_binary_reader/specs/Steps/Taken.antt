-- An indicator and values as the reader takes them out of the bits.
-- Assumes nothing.
use Rattle.std.specs.Prelude.{◌≡◌, List, [], ◌∷◌, ◌++◌, ℕ, zero, suc, ◌+◌, ◌-◌, ◌*◌, ◌/◌, ◌%◌, ◌^◌, ◌≤◌, ◌<◌, length, take, drop, replicate}
use Rattle.bits.specs.Row.{bits}
use Rattle.codes.specs.Steps.BitBuffer.{ahead}
use Rattle.codes.specs.Chain.{Entry, In, Begins}
use Rattle.codes.specs.Pack.{low, value}
use Rattle.bit_buffer.specs.declared.Buffer.{Buffer}
use Rattle.pseudo_binary.specs.Table.{character_of, tables}
use Rattle.pseudo_binary_reader.specs.declared.Indicator.{Indicator}
use Rattle.pseudo_binary_reader.specs.declared.Indicator.TheVariants.{Values, Repeat}

-- a buffer that starts at bit `at`: what is still to be read is what follows that bit. It holds nine bits of it, or all
pub record Starts (s : List ℕ) (at : ℕ) (b : Buffer) : Type 0 where
  pub same : ahead s b.held b.have b.next ≡ drop at (bits s)
  pub within : b.next ≤ length s
  pub few : b.have ≤ 16
  pub enough : b.next < length s → 9 ≤ b.have

-- w is the first nine of the bits, with ones for those that are not there
pub record Nine (bs : List ℕ) (w : ℕ) : Type 0 where
  pub nine : low 9 w ≡ take 9 (bs ++ replicate 9 1)
  pub small : w < 512

-- the first 57 of the bits are at the top of the 64 bits r
abbrev pub Top : List ℕ → ℕ → Type 0
Top bs r = (j n : ℕ) → j + n ≤ 57 → low n (r / 2 ^ (64 - (j + n))) ≡ take n (drop j bs)

-- how many bits an indicator has
abbrev pub width_of : Indicator → ℕ
width_of (Values count) = 8
width_of (Repeat count character) = 6

-- how many values it announces
abbrev pub values_of : Indicator → ℕ
values_of (Values count) = count
values_of (Repeat count character) = 0

-- what it says itself
abbrev pub said_by : Indicator → List ℕ
said_by (Values count) = []
said_by (Repeat count character) = replicate count character

-- how many characters it says, with those of its values
abbrev pub count_of : Indicator → ℕ
count_of (Values count) = count
count_of (Repeat count character) = count

-- the indicator that begins the nine bits w
pub record FirstIndicator (w : ℕ) (r : Indicator) : Type 0 where
  pub entry : Entry
  pub legal : In entry (tables 0)
  pub begins : Begins entry.code (low 9 w)
  pub width : width_of r ≡ length entry.code
  pub announces : values_of r ≡ entry.announces
  pub says : said_by r ≡ entry.says
  pub short : 6 ≤ width_of r
  pub long : width_of r ≤ 8
  pub some : 1 ≤ count_of r
  pub few : count_of r ≤ values_of r + 16
  pub many : values_of r ≤ 128

-- r is the eight values of the 48 bits v as characters, a byte each, the first at the top
abbrev pub Spread : ℕ → ℕ → Type 0
Spread v r = (k : ℕ) → k < 8 → r / 2 ^ (56 - 8 * k) % 256 ≡ character_of (v / 2 ^ (42 - 6 * k) % 64)

-- c is the eight values that begin the bits as characters, a byte each, the first at the top
abbrev pub Eight : List ℕ → ℕ → Type 0
Eight bs c = (k : ℕ) → k < 8 → c / 2 ^ (56 - 8 * k) % 256 ≡ character_of (value (take 6 (drop (6 * k) bs)))

-- the characters of the n six-bit values that begin the bits
unfoldable pub characters_in : ℕ → List ℕ → List ℕ
characters_in zero bs = []
characters_in (suc n) bs = character_of (value (take 6 bs)) ∷ characters_in n (drop 6 bs)

-- what an indicator says, or the values that it announces, which begin the bits
abbrev pub saying : Indicator → List ℕ → List ℕ
saying (Values count) bs = characters_in count bs
saying (Repeat count character) bs = replicate count character
