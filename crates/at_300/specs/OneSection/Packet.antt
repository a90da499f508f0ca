-- The parts of a packet: four bytes of header, the data, two checksum bytes; and the terms of a call.
-- Assumes nothing.
use Rattle.std.specs.Prelude.{List, [], ◌∷◌, ◌++◌, ℕ, ◌+◌, get_or, take, drop}
use Rattle.header.specs.Fields.{bytes_of}
use Rattle.header.specs.Valid.{length_in}
use Rattle.checksum.specs.Checksum.{checksum_bytes}
use Rattle.terms.specs.declared.Terms.{Terms}

-- under a header: the data, as many bytes as the header's length, from byte 4 on
unfoldable pub data_in : ℕ → List ℕ → List ℕ
data_in header packet = take (length_in header) (drop 4 packet)

-- and the two bytes after it
unfoldable pub sum_in : ℕ → List ℕ → List ℕ
sum_in header packet = get_or packet (4 + length_in header) 0 ∷ get_or packet (5 + length_in header) 0 ∷ []

-- the header's bytes, the data, the checksum of the data
unfoldable pub packet_of : ℕ → List ℕ → List ℕ
packet_of header carried = bytes_of header ++ (carried ++ checksum_bytes carried)

-- the terms of a call that names this number of header bits
abbrev pub naming : ℕ → Terms
naming mend = record { mend = mend; most = 4000 }
