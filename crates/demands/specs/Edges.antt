-- Both sides of each edge (RULES, Edges): the table, a row a line, in literal numbers, and what a row says. `edges-hold` proves every row.
-- Assumes nothing.
use Rattle.std.specs.Prelude.{Bool, true, false, List, [], ◌∷◌, ◌++◌, ◌≡◌, ℕ, ◌≤◌, length, replicate, Option, Some, None}
use Rattle.header.specs.declared.Format.{Format}
use Rattle.header.specs.declared.Format.TheVariants.{Open, PseudoBinary, Numeric, Shef, FullAscii}
use Rattle.header.specs.Fields.{fields_in, bytes_of}
use Rattle.header.specs.Formats.{HasFormat}
use Rattle.header.specs.Valid.{Valid, flag_in, length_in, check_in}
use Rattle.apart.specs.Comparison.{Against}
use Rattle.mending.specs.declared.Mending.TheVariants.{Mended}
use Rattle.mending.specs.Mends.{MendsWithin}
use Rattle.codes.specs.Pack.{written}
use Rattle.pseudo_binary.specs.Makers as makers
use Rattle.formats.specs.Ceiling.{ceiling}
use Rattle.formats.specs.Data.{Carries, CarriesIn, UnreadableAfter, Uncoded, data_of, comes_back}
use Rattle.refusals.specs.declared.ExamineRefusal.{ExamineRefusal}
use Rattle.refusals.specs.declared.ExamineRefusal.TheVariants.{TooManyBits, NoHeader, OtherType, OtherLength}
use Rattle.refusals.specs.declared.ReadRefusal.TheVariants.{Packet}
use Rattle.sections.specs.Sections.{section_count}
use Rattle.packet.specs.Packet.{whole_length, received, header_for}
use Rattle.examine.specs.Examine.{reading_of}
use Rattle.reader.specs.Reader.{ReadRefuses}
use Rattle.terms.specs.Terms.{most_at, naming}

pub data Edge : Type 0 where
  -- the check bits of a flag and a length, and the three bytes that follow the flag
  checks : (flag length check : ℕ) → List ℕ → Edge
  -- the header that we send for a format, a sync bit and a length
  heads : Format → (sync : Bool) (length : ℕ) → List ℕ → Edge
  -- whichever of these numbers of bits is named, a received header is read as this format, sync bit and length, with so many bits mended, and these
  reads : (numbers : List ℕ) → List ℕ → Format → (sync : Bool) (length mended mask : ℕ) → Edge
  -- whichever is named, a received header is too far from any valid one: refusal 2, whatever follows it
  hopeless : (numbers : List ℕ) → List ℕ → Edge
  -- whichever is named, a received header is mended to one, with so many bits, whose type is none of ours: refusal 3, whatever follows it
  foreign : (numbers : List ℕ) (head header : List ℕ) (mended : ℕ) → Edge
  -- none of these numbers may be named: refusal 17, whatever the packet is
  unnamed : (numbers : List ℕ) → Edge
  -- our writer makes this data of the text, and the data carries what the text comes back as, in so many codes
  writes : Format → (text carried : List ℕ) (codes : ℕ) → Edge
  -- the data carries the text in so many codes
  carries : Format → (text carried : List ℕ) (codes : ℕ) → Edge
  -- the data is malformed at this bit, behind so many codes
  stops : Format → (carried : List ℕ) (bit codes : ℕ) → Edge
  -- the data carries the text in so many codes, and no data of as many bytes has more
  fullest : Format → (text carried : List ℕ) (codes : ℕ) → Edge
  -- the first character of the text that has no code is this one
  lacks : Format → (text : List ℕ) (index : ℕ) → Edge
  -- so many data bytes are sent in so many sections, and the packet has so many bytes
  divides : (length sections whole : ℕ) → Edge
  -- so many data bytes are not too many at this rate
  fits : (rate-1200 : Bool) (length : ℕ) → Edge
  -- these are the header's bytes for so many data bytes, which are too many at this rate: refusal 4, whichever number of bits is named and whatever follows
  overlong : (rate-1200 : Bool) (numbers : List ℕ) → List ℕ → Format → (sync : Bool) (length : ℕ) → Edge
  -- no Pseudo Binary data of so many bytes carries a text of more characters, and ours of as many slashes has just so many bytes
  longest : (length characters : ℕ) → Edge
  -- so many of one character in Pseudo Binary, each under an indicator of its own, take so many data bytes, and ours of them so many
  singly : (character count single ours : ℕ) → Edge
  -- the data carries the text, and is judged so against ours, with so many bytes more
  judged : Format → (text carried : List ℕ) → Option ℕ → (more : ℕ) → Edge

-- it is so whichever of the numbers is named
abbrev pub Naming : List ℕ → (ℕ → Type 0) → Type 0
Naming [] Said = Unit {0}
Naming (mend ∷ numbers) Said = Said mend × Naming numbers Said

-- a packet that starts with these bytes is refused at this rate, whatever follows and whatever the room
abbrev pub RefusesAt : Bool → ℕ → List ℕ → ExamineRefusal → Type 0
RefusesAt rate-1200 mend head refusal = (after : List ℕ) (room : ℕ) → ReadRefuses (naming mend rate-1200) (head ++ after) room (Packet refusal)

-- and so at either
abbrev pub RefusesAll : ℕ → List ℕ → ExamineRefusal → Type 0
RefusesAll mend head refusal = RefusesAt false mend head refusal × RefusesAt true mend head refusal

abbrev pub Holds : Edge → Type 0
Holds (checks flag length check bytes) =
    let header = received (flag ∷ bytes) in
    Valid header × (flag_in header ≡ flag) × (length_in header ≡ length) × (check_in header ≡ check)
Holds (heads format sync length bytes) = bytes_of (header_for format sync length) ≡ bytes
Holds (reads numbers head format sync length mended mask) =
    let header = header_for format sync length in
    Naming numbers (λ mend. MendsWithin mend (received head) (Mended header mended)) × HasFormat (fields_in header) format
    × ((fields_in header).sync ≡ sync) × (length_in header ≡ length) × ((reading_of format header (received head) [] 0).mask ≡ mask)
Holds (hopeless numbers head) = Naming numbers (λ mend. RefusesAll mend head NoHeader)
Holds (foreign numbers head header mended) =
    Naming numbers (λ mend. MendsWithin mend (received head) (Mended (received header) mended) × RefusesAll mend head OtherType)
Holds (unnamed numbers) = Naming numbers (λ mend. RefusesAll mend [] TooManyBits)
Holds (writes format text carried codes) = (data_of format text ≡ carried) × CarriesIn format carried (comes_back format text) codes
Holds (carries format text carried codes) = CarriesIn format carried text codes
Holds (stops format carried bit codes) = UnreadableAfter format carried bit codes
Holds (fullest format text carried codes) = CarriesIn format carried text codes × (codes ≡ ceiling format (length carried))
Holds (lacks format text index) = Uncoded format text index
Holds (divides length sections whole) = (section_count length ≡ sections) × (whole_length length ≡ whole)
Holds (fits rate-1200 length) = length ≤ most_at rate-1200
Holds (overlong rate-1200 numbers head format sync length) =
    (bytes_of (header_for format sync length) ≡ head) × Naming numbers (λ mend. RefusesAt rate-1200 mend head OtherLength)
Holds (longest bytes characters) =
    ((text carried : List ℕ) → length carried ≤ bytes → Carries PseudoBinary text carried → length text ≤ characters)
    × (length (data_of PseudoBinary (replicate characters 47)) ≡ bytes)
Holds (singly character count single ours) =
    let text = replicate count character in
    Carries PseudoBinary (comes_back PseudoBinary text) (written (makers.singly text)) × (length (written (makers.singly text)) ≡ single)
    × (length (data_of PseudoBinary text) ≡ ours)
Holds (judged format text carried comparison more) =
    Carries format text carried × Against carried (data_of format text) (record { departs_at = comparison; more = more })

-- text in ASCII: A 65, B 66, E 69, a 97, > 62, ? 63, ~ 126, DEL 127, 0 48, 1 49, 2 50, space 32, # 35, + 43, - 45, . 46, slash 47, : 58, ; 59, = 61, CR 13, LF 10
abbrev pub edges : List Edge
edges =
    -- P1
    checks 0xC4 107 0x285 (0x01 ∷ 0xAE ∷ 0x85 ∷ [])
    -- P2, P3, P4
    ∷ heads Open false 1 (0x40 ∷ 0x00 ∷ 0x04 ∷ 0xDD ∷ [])
    ∷ heads Open false 4000 (0x40 ∷ 0x3E ∷ 0x80 ∷ 0xD1 ∷ [])
    ∷ heads FullAscii false 1 (0xD0 ∷ 0x00 ∷ 0x04 ∷ 0x30 ∷ [])
    -- P5
    ∷ reads (2 ∷ []) (0xC1 ∷ 0x00 ∷ 0x04 ∷ 0xDD ∷ []) Open false 1 2 0x81000000
    ∷ hopeless (0 ∷ 1 ∷ []) (0xC1 ∷ 0x00 ∷ 0x04 ∷ 0xDD ∷ [])
    -- P6
    ∷ hopeless (0 ∷ 1 ∷ 2 ∷ []) (0x40 ∷ 0x00 ∷ 0x04 ∷ 0xDA ∷ [])
    -- P7
    ∷ foreign (1 ∷ 2 ∷ []) (0x00 ∷ 0x00 ∷ 0x00 ∷ 0x00 ∷ []) (0x80 ∷ 0x00 ∷ 0x00 ∷ 0x00 ∷ []) 1
    ∷ hopeless (0 ∷ []) (0x00 ∷ 0x00 ∷ 0x00 ∷ 0x00 ∷ [])
    -- M1
    ∷ unnamed (3 ∷ 4 ∷ 256 ∷ 65536 ∷ 4294967295 ∷ [])
    -- M2
    ∷ reads (0 ∷ 1 ∷ 2 ∷ []) (0x40 ∷ 0x00 ∷ 0x04 ∷ 0xDD ∷ []) Open false 1 0 0x00000000
    ∷ reads (1 ∷ 2 ∷ []) (0xC0 ∷ 0x00 ∷ 0x04 ∷ 0xDD ∷ []) Open false 1 1 0x80000000
    ∷ hopeless (0 ∷ []) (0xC0 ∷ 0x00 ∷ 0x04 ∷ 0xDD ∷ [])
    -- M3
    ∷ reads (1 ∷ 2 ∷ []) (0x40 ∷ 0x00 ∷ 0x04 ∷ 0xDC ∷ []) Open false 1 1 0x00000001
    ∷ hopeless (0 ∷ []) (0x40 ∷ 0x00 ∷ 0x04 ∷ 0xDC ∷ [])
    ∷ reads (1 ∷ 2 ∷ []) (0x40 ∷ 0x80 ∷ 0x04 ∷ 0xDD ∷ []) Open false 1 1 0x00800000
    ∷ hopeless (0 ∷ []) (0x40 ∷ 0x80 ∷ 0x04 ∷ 0xDD ∷ [])
    -- P8
    ∷ writes PseudoBinary (65 ∷ 66 ∷ []) (0x81 ∷ 0x04 ∷ 0x2F ∷ []) 3
    -- P9
    ∷ writes PseudoBinary (replicate 16 47) (0x7F ∷ []) 1
    ∷ writes PseudoBinary (replicate 17 47) (0x7D ∷ 0x0F ∷ []) 2
    -- P10
    ∷ carries PseudoBinary (replicate 4 47 ++ (replicate 4 32 ++ (replicate 4 47 ++ replicate 4 32))) (0x4C ∷ 0x34 ∷ 0xC3 ∷ []) 4
    -- P11
    ∷ stops PseudoBinary (0xFF ∷ []) 8 1
    -- P12
    ∷ writes FullAscii (65 ∷ []) (0x83 ∷ []) 1
    ∷ writes FullAscii (65 ∷ 66 ∷ []) (0x83 ∷ 0x0B ∷ []) 2
    -- P13
    ∷ writes FullAscii (65 ∷ 13 ∷ 10 ∷ []) (0x83 ∷ 0xFF ∷ []) 2
    -- P14
    ∷ writes FullAscii (13 ∷ 10 ∷ []) (0xFF ∷ 0xFF ∷ []) 1
    -- P15
    ∷ stops FullAscii (0xFF ∷ []) 0 0
    -- Q1
    ∷ writes PseudoBinary (63 ∷ []) (0x80 ∷ 0xFF ∷ []) 2
    ∷ writes PseudoBinary (127 ∷ []) (0x80 ∷ 0xFF ∷ []) 2
    ∷ carries PseudoBinary (63 ∷ []) (0x80 ∷ 0xFF ∷ []) 2
    -- Q2
    ∷ writes PseudoBinary (126 ∷ []) (0x80 ∷ 0xFB ∷ []) 2
    ∷ lacks PseudoBinary (62 ∷ []) 0
    -- Q3
    ∷ writes PseudoBinary (replicate 8 63) (0x87 ∷ 0xFF ∷ 0xFF ∷ 0xFF ∷ 0xFF ∷ 0xFF ∷ 0xFF ∷ []) 9
    -- N1
    ∷ writes Numeric (49 ∷ 50 ∷ []) (0x12 ∷ []) 2
    ∷ writes Numeric (49 ∷ []) (0x1A ∷ []) 2
    ∷ carries Numeric (49 ∷ 32 ∷ []) (0x1A ∷ []) 2
    -- N2
    ∷ writes Numeric (13 ∷ 10 ∷ []) (0xBB ∷ []) 2
    ∷ writes Numeric (13 ∷ []) (0xBB ∷ []) 2
    ∷ writes Numeric (10 ∷ []) (0xBB ∷ []) 2
    -- N3
    ∷ writes Numeric (35 ∷ 61 ∷ 58 ∷ 69 ∷ []) (0xBD ∷ 0xDB ∷ 0xEE ∷ 0xDD ∷ []) 8
    -- N4
    ∷ carries Numeric (48 ∷ 13 ∷ 10 ∷ 43 ∷ []) (0x0B ∷ 0xBB ∷ []) 4
    -- N5
    ∷ lacks Numeric (43 ∷ 43 ∷ []) 1
    ∷ lacks Numeric (43 ∷ 35 ∷ []) 1
    ∷ lacks Numeric (45 ∷ 69 ∷ []) 1
    ∷ lacks Numeric (46 ∷ 58 ∷ []) 1
    ∷ lacks Numeric (49 ∷ 50 ∷ 43 ∷ 13 ∷ []) 3
    ∷ writes Numeric (49 ∷ 50 ∷ 43 ∷ []) (0x12 ∷ 0xBA ∷ []) 4
    -- S1
    ∷ writes Shef (48 ∷ []) (0x07 ∷ []) 1
    ∷ writes Shef (65 ∷ []) (0x83 ∷ []) 1
    -- S2
    ∷ writes Shef (13 ∷ 10 ∷ []) (0xEB ∷ []) 1
    ∷ writes Shef (13 ∷ []) (0xEB ∷ []) 1
    ∷ writes Shef (10 ∷ []) (0xEB ∷ []) 1
    -- S3
    ∷ writes Shef (59 ∷ []) (0xFB ∷ []) 1
    ∷ stops Shef (0xFF ∷ []) 0 0
    -- S4
    ∷ stops Shef (0x07 ∷ 0xFF ∷ []) 5 1
    -- S5
    ∷ lacks Shef (65 ∷ 97 ∷ []) 1
    -- C1
    ∷ fullest PseudoBinary (replicate 4 32) (0x00 ∷ 0x00 ∷ 0x00 ∷ []) 4
    ∷ fullest PseudoBinary (replicate 2 47) (0x41 ∷ 0x0F ∷ []) 2
    -- C2
    ∷ fullest Numeric (48 ∷ 48 ∷ []) (0x00 ∷ []) 2
    -- C3
    ∷ fullest Shef (replicate 8 48) (0x00 ∷ 0x00 ∷ 0x00 ∷ 0x00 ∷ 0x00 ∷ []) 8
    ∷ fullest Shef (replicate 3 48) (0x00 ∷ 0x01 ∷ []) 3
    -- C4
    ∷ fullest FullAscii (replicate 4 32) (0x00 ∷ 0x00 ∷ 0x00 ∷ []) 4
    -- C5
    ∷ stops PseudoBinary (0x82 ∷ 0x00 ∷ 0x0F ∷ []) 20 3
    ∷ carries PseudoBinary (64 ∷ 64 ∷ 64 ∷ []) (0x82 ∷ 0x00 ∷ 0x00 ∷ 0x3F ∷ []) 4
    -- R1
    ∷ divides 1 1 7
    ∷ divides 4000 1 4006
    ∷ divides 4001 2 4009
    ∷ divides 8000 2 8008
    ∷ divides 8001 3 8011
    ∷ divides 12000 3 12010
    ∷ divides 12001 4 12013
    ∷ divides 16000 4 16012
    -- R2
    ∷ fits false 4000
    ∷ overlong false (0 ∷ 1 ∷ 2 ∷ []) (0x40 ∷ 0x3E ∷ 0x87 ∷ 0xB8 ∷ []) Open false 4001
    ∷ fits true 4001
    ∷ fits true 16000
    ∷ heads Open false 16000 (0x40 ∷ 0xFA ∷ 0x00 ∷ 0xF2 ∷ [])
    ∷ overlong true (0 ∷ 1 ∷ 2 ∷ []) (0x40 ∷ 0xFA ∷ 0x07 ∷ 0x9B ∷ []) Open false 16001
    -- R3
    ∷ longest 4000 85328
    ∷ longest 16000 341328
    -- A1
    ∷ singly 47 5333 4000 251
    -- A2
    ∷ singly 65 128 224 97
    -- J1
    ∷ judged PseudoBinary (replicate 17 47) (0x7D ∷ 0x0F ∷ []) None 0
    ∷ judged PseudoBinary (replicate 17 47) (0x41 ∷ 0xFF ∷ []) (Some 2) 0
    -- J2
    ∷ judged PseudoBinary (replicate 26 47) (0x65 ∷ 0xFF ∷ []) (Some 3) 0
    -- J3
    ∷ judged PseudoBinary (65 ∷ 66 ∷ 47 ∷ 47 ∷ []) (0x81 ∷ 0x04 ∷ 0x24 ∷ 0x10 ∷ []) (Some 25) 0
    -- J4
    ∷ judged PseudoBinary (65 ∷ 66 ∷ []) (0x80 ∷ 0x06 ∷ 0x00 ∷ 0x2F ∷ []) (Some 7) 1
    -- J5
    ∷ judged FullAscii (13 ∷ 10 ∷ []) (0xFE ∷ 0xFF ∷ 0xBF ∷ []) (Some 7) 1
    -- J6
    ∷ judged Numeric (49 ∷ 32 ∷ []) (0x1A ∷ []) None 0
    ∷ judged Shef (65 ∷ []) (0x83 ∷ []) None 0
    ∷ []

abbrev pub Every : List Edge → Type 0
Every [] = Unit {0}
Every (e ∷ es) = Holds e × Every es
