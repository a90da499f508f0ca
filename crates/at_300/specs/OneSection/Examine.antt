-- What is found out about a packet without a text buffer (RULES, Refusals: 17, then 1 to 7): the stated condition of each refusal, tested in this order,
-- first match answers; and when a packet is accepted, with what.
-- Assumes nothing.
use Rattle.std.specs.Prelude.{List, ◌⊎◌, ◌≡◌, ℕ, ◌+◌, ◌≤◌, ◌<◌, length, Ok, Err}
use Rattle.std.specs.Int.Bits.{bit_xor}
use Rattle.header.specs.declared.Format.{Format}
use Rattle.header.specs.Fields.{fields_in}
use Rattle.header.specs.Formats.{HasFormat}
use Rattle.header.specs.Valid.{length_in}
use Rattle.distance.specs.Distance.{ValidWithin, distance}
use Rattle.checksum.specs.Checksum.{checksum_bytes}
use Rattle.formats.specs.Data.{Carries, codes_in, UnreadableAfter}
use Rattle.packet.specs.Packet.{received}
use Rattle.refusals.specs.declared.ExamineRefusal.{ExamineRefusal}
use Rattle.refusals.specs.declared.ExamineRefusal.TheVariants.{TooManyBits, Short, NoHeader, OtherType, OtherLength, CutOff, Checksum, Malformed}
use Rattle.refusals.specs.Match.{FirstMatch, reader_turn}
use Rattle.refusals.specs.Refusals.{examine_told}
use Rattle.terms.specs.declared.Terms.{Terms}
use Rattle.terms.specs.Terms.{MayMend}
use Rattle.examine.specs.declared.Reading.{Reading}
use Rattle.examine.specs.Examine.{ExamineAnswer, UnderHeader}
use Rattle.at_300.specs.OneSection.Packet.{data_in, sum_in}

-- the stated condition of each refusal
abbrev pub Fault : Terms → List ℕ → ExamineRefusal → Type 0
Fault terms packet TooManyBits = MayMend terms.mend → ⊥
Fault terms packet Short = length packet < 4
Fault terms packet NoHeader = (header : ℕ) → ValidWithin terms.mend (received packet) header → ⊥
Fault terms packet OtherType = UnderHeader terms packet (λ header. (format : Format) → HasFormat (fields_in header) format → ⊥)
Fault terms packet OtherLength = UnderHeader terms packet (λ header. (length_in header ≡ 0) ⊎ (terms.most < length_in header))
Fault terms packet CutOff = UnderHeader terms packet (λ header. length packet < length_in header + 6)
Fault terms packet (Checksum section) =
    (section ≡ 0) × UnderHeader terms packet (λ header. sum_in header packet ≡ checksum_bytes (data_in header packet) → ⊥)
Fault terms packet (Malformed bit codes) =
    UnderHeader terms packet (λ header. (format : Format) × HasFormat (fields_in header) format × UnreadableAfter format (data_in header packet) bit codes)

-- tested in the order 17, 1 to 7
abbrev pub Refuses : Terms → List ℕ → ExamineRefusal → Type 0
Refuses terms packet = FirstMatch ExamineRefusal examine_told (Fault terms packet) reader_turn

-- a number of bits that may be named; a valid header near enough, of this format, of our lengths; and bytes enough
pub record Framed (terms : Terms) (packet : List ℕ) (format : Format) (header : ℕ) : Type 0 where
  pub bits : MayMend terms.mend
  pub near : ValidWithin terms.mend (received packet) header
  pub typed : HasFormat (fields_in header) format
  pub some : 1 ≤ length_in header
  pub few : length_in header ≤ terms.most
  pub whole : length_in header + 6 ≤ length packet

-- the document and our limits allow the packet with this header, in this format, with this text: it is framed so; the checksum is right; and the data is
-- what a maker may build of the text
pub record Allowed (terms : Terms) (packet : List ℕ) (format : Format) (header : ℕ) (text : List ℕ) : Type 0 where
  pub framed : Framed terms packet format header
  pub summed : sum_in header packet ≡ checksum_bytes (data_in header packet)
  pub carries : Carries format text (data_in header packet)

-- the answer: out of the format, the header that the packet is read as, the header as it was received, the text, and how many codes the data has
abbrev pub reading_of : Format → (header word : ℕ) → List ℕ → (codes : ℕ) → Reading
reading_of format header word text codes =
    record {
      format = format;
      sync = (fields_in header).sync;
      mended = distance word header;
      mask = bit_xor word header;
      codes = codes;
      data_length = length_in header;
      text_length = length text;
      used = length_in header + 6;
    }

-- the packet is accepted with this reading and this text
pub record Accepts (terms : Terms) (packet : List ℕ) (reading : Reading) (text : List ℕ) : Type 0 where
  pub format : Format
  pub header : ℕ
  pub allowed : Allowed terms packet format header text
  pub is : reading ≡ reading_of format header (received packet) text (codes_in format text (data_in header packet) allowed.carries)

-- the answer
abbrev pub Examines : Terms → List ℕ → ExamineAnswer → Type 0
Examines terms packet (Ok reading) = (text : List ℕ) × Accepts terms packet reading text
Examines terms packet (Err refusal) = Refuses terms packet refusal
