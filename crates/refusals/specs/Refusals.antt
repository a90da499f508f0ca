-- The refusals of each entry point (RULES, Refusals): the number of each, the whole number that comes with it and how many codes were read, 0 unless named.
-- Assumes nothing.
use Rattle.std.specs.Prelude.{ℕ}
use Rattle.refusals.specs.declared.ExamineRefusal.{ExamineRefusal}
use Rattle.refusals.specs.declared.ExamineRefusal.TheVariants.{TooManyBits, Short, NoHeader, OtherType, OtherLength, CutOff, Checksum, Malformed}
use Rattle.refusals.specs.declared.ReadRefusal.{ReadRefusal}
use Rattle.refusals.specs.declared.ReadRefusal.TheVariants.{Packet, NoRoom}
use Rattle.refusals.specs.declared.WriteRefusal.{WriteRefusal}
use Rattle.refusals.specs.declared.WriteRefusal.TheVariants.{OtherFormat, Empty, NoCode, TooLong, NoRoom as NoPacketRoom}

-- a refusal's number, the one that comes with it, and the codes that were read
abbrev pub Told : Type 0
Told = ℕ × ℕ × ℕ

abbrev pub number_in : Told → ℕ
number_in told = told.0

abbrev pub value_in : Told → ℕ
value_in told = told.1

abbrev pub codes_told : Told → ℕ
codes_told told = told.2

-- of a packet: more header bits to mend than may be named; fewer than 4 bytes; no valid header within the named number of bits; another type; another
-- length; fewer bytes than the length asks for; a checksum, with the number of the first section whose it is; malformed data, with the bit and the codes
-- before it
abbrev pub examine_told : ExamineRefusal → Told
examine_told TooManyBits = (17, 0, 0)
examine_told Short = (1, 0, 0)
examine_told NoHeader = (2, 0, 0)
examine_told OtherType = (3, 0, 0)
examine_told OtherLength = (4, 0, 0)
examine_told CutOff = (5, 0, 0)
examine_told (Checksum section) = (6, section, 0)
examine_told (Malformed bit codes) = (7, bit, codes)

-- of the text buffer: too short, with the text's length
abbrev pub read_told : ReadRefusal → Told
read_told (Packet refusal) = examine_told refusal
read_told (NoRoom needed) = (8, needed, 0)

-- of a text: another format; empty; a character without a code, with its index; too many data bytes; the packet buffer too short, with the packet's length
abbrev pub write_told : WriteRefusal → Told
write_told OtherFormat = (12, 0, 0)
write_told Empty = (10, 0, 0)
write_told (NoCode index) = (9, index, 0)
write_told TooLong = (11, 0, 0)
write_told (NoPacketRoom needed) = (8, needed, 0)
