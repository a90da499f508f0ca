-- The parts of a packet: four bytes of header, and the data in sections, each with two checksum bytes; and the packet that carries a text.
-- Assumes nothing.
use Rattle.std.specs.Prelude.{Bool, List, ◌++◌, ℕ, ◌+◌, ◌*◌, get_or, drop}
use Rattle.header.specs.declared.Format.{Format}
use Rattle.header.specs.Fields.{word_of, bytes_of, header_of, sent_fields}
use Rattle.header.specs.Formats.{format_number}
use Rattle.header.specs.Valid.{length_in}
use Rattle.sections.specs.Sections.{section_count, in_sections, joined, RightSums, FirstWrong}

-- how many bytes a packet of n data bytes has: 4 for the header, and 2 for the checksum of each section
abbrev pub whole_length : ℕ → ℕ
whole_length n = n + 4 + 2 * section_count n

-- ---- of a received slice, whose first byte is the flag

-- its first 32 bits
unfoldable pub received : List ℕ → ℕ
received packet = word_of (get_or packet 0 0) (get_or packet 1 0) (get_or packet 2 0) (get_or packet 3 0)

-- under a header: the data, as many bytes as the header's length, in sections from byte 4 on
unfoldable pub data_in : ℕ → List ℕ → List ℕ
data_in header packet = joined (length_in header) (drop 4 packet)

-- the checksum behind each section is that of its bytes
abbrev pub Summed : ℕ → List ℕ → Type 0
Summed header packet = RightSums (length_in header) (drop 4 packet)

-- section k, counted from 0, is the first of which it is not
abbrev pub FirstUnsummed : ℕ → List ℕ → ℕ → Type 0
FirstUnsummed header packet = FirstWrong (length_in header) (drop 4 packet)

-- ---- of a packet that is sent

-- the header's bytes, and the data in sections, each with its checksum
unfoldable pub packet_of : ℕ → List ℕ → List ℕ
packet_of header carried = bytes_of header ++ in_sections carried

-- the header of data of this length
unfoldable pub header_for : Format → Bool → ℕ → ℕ
header_for format sync length = header_of (sent_fields (format_number format) sync length)
