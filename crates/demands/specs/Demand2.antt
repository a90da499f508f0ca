-- Demand 2. Packets and text agree with document 001. Text that has codes and fits is written in the named format and sync bit and reads back character
-- for character with both (as what it comes back as: RULES, Formats); empty text is refused. A packet is accepted exactly when its header is at
-- most the named number of bits from a valid one, the document and our limits allow the packet with that header in one of our formats, and the buffer holds
-- its text. Writing that text again in its format gives a packet that reads the same in text and format, room given.
-- The first sentence is what the definitions say, held against the document, and what the published packets show. The rest holds at either rate and for each
-- number of bits that may be named.
-- Assumes nothing.
use Rattle.std.specs.Prelude.{Bool, List, [], ◌++◌, ◌↔◌, ◌≡◌, ℕ, ◌≤◌, ◌<◌, length, drop, Ok, Err}
use Rattle.std.specs.Int.Bits.{bit_xor}
use Rattle.bits.specs.Row.{Bytes}
use Rattle.header.specs.declared.Format.{Format}
use Rattle.header.specs.Formats.{format_number}
use Rattle.distance.specs.Distance.{distance}
use Rattle.formats.specs.Data.{codes_in, AllCoded, comes_back, data_of, codes_of}
use Rattle.refusals.specs.declared.WriteRefusal.TheVariants.{Empty}
use Rattle.terms.specs.declared.Terms.{Terms}
use Rattle.examine.specs.declared.Reading.{Reading}
use Rattle.examine.specs.Examine.{ExamineAnswer, Allowed, reading_of, Accepts, Examines}
use Rattle.packet.specs.Packet.{whole_length, received, data_in}
use Rattle.reader.specs.Reader.{ReadAnswer, Reads}
use Rattle.writer.specs.Writer.{WriteAnswer, our_packet, Writes}
use Rattle.demands.specs.Makers.{Made, Flipped, arriving, reading_with}

-- the text has codes and fits: some text, a code for each character, and no more data than may be
pub record Writable (terms : Terms) (format : Format) (text : List ℕ) : Type 0 where
  pub some : 0 < length text
  pub coded : AllCoded format text
  pub few : length (data_of format text) ≤ terms.most

-- the length of the packet that our writer makes of it
abbrev pub packet_length : Format → List ℕ → ℕ
packet_length format text = whole_length (length (data_of format text))

-- the reading of that packet as it was written: no bit mended
abbrev pub clean_reading : Format → Bool → List ℕ → Reading
clean_reading format sync text = reading_with format sync 0 0 (codes_of format text) (length (data_of format text)) (length (comes_back format text))

-- the text stands at the front of the buffer, and behind it the buffer is as it was
abbrev pub StandsInFront : List ℕ → List ℕ → List ℕ → Type 0
StandsInFront text entry exit = exit ≡ text ++ drop (length text) entry

pub record Demand2 (terms : Terms) : Type 0 where
  -- (What the writer promises is the same whatever number of bits a reader names.)
  pub written-whatever-named : (other : Terms) → other.most ≡ terms.most → (number : ℕ) (sync : Bool) (text entry exit : List ℕ) (answer : WriteAnswer)
      → Writes other number sync text entry answer exit → Writes terms number sync text entry answer exit
  -- Text that has codes and fits is written in the named format and sync bit
  pub written : (format : Format) (sync : Bool) (text entry exit : List ℕ) (answer : WriteAnswer) → Writable terms format text
      → packet_length format text ≤ length entry → Writes terms (format_number format) sync text entry answer exit
      → (answer ≡ Ok (packet_length format text)) × (exit ≡ our_packet format sync text ++ drop (packet_length format text) entry)
  -- (a packet that a maker could have built)
  pub written-is-made : (format : Format) (sync : Bool) (text : List ℕ) → Writable terms format text → Made terms format sync text (our_packet format sync text)
  -- and reads back character for character with both, whatever follows it;
  pub reads-back : (format : Format) (sync : Bool) (text after entry exit : List ℕ) (answer : ReadAnswer) → Writable terms format text
      → length (comes_back format text) ≤ length entry → Reads terms (our_packet format sync text ++ after) entry answer exit
      → (answer ≡ Ok (clean_reading format sync text)) × StandsInFront (comes_back format text) entry exit
  -- (the two over one buffer)
  pub written-reads-back : (format : Format) (sync : Bool) (text lent packet : List ℕ) (n : ℕ)
      → Writes terms (format_number format) sync text lent (Ok n) packet
      → (entry exit : List ℕ) (answer : ReadAnswer) → length (comes_back format text) ≤ length entry → Reads terms packet entry answer exit
      → (answer ≡ Ok (clean_reading format sync text)) × ((clean_reading format sync text).used ≡ n) × StandsInFront (comes_back format text) entry exit
  -- empty text is refused, in a format of ours for being empty, and is never written.
  pub empty-refused : (format : Format) (sync : Bool) (entry exit : List ℕ) (answer : WriteAnswer)
      → Writes terms (format_number format) sync [] entry answer exit → (answer ≡ Err Empty) × (exit ≡ entry)
  pub empty-never-written : (number : ℕ) (sync : Bool) (entry exit : List ℕ) (n : ℕ) → Writes terms number sync [] entry (Ok n) exit → ⊥
  -- A packet is accepted exactly when its header is at most the named number of bits from a valid one, the document and our limits allow the packet with
  -- that header in one of our formats, and the buffer holds its text;
  pub accepted-exactly : (packet entry exit : List ℕ) (answer : ReadAnswer) → Reads terms packet entry answer exit
      → ((reading : Reading) × (answer ≡ Ok reading))
      ↔ ((format : Format) × (header : ℕ) × (text : List ℕ) × Allowed terms packet format header text × (length text ≤ length entry))
  -- without a buffer, when they allow it;
  pub readable-exactly : (packet : List ℕ) (answer : ExamineAnswer) → Examines terms packet answer
      → ((reading : Reading) × (answer ≡ Ok reading)) ↔ ((format : Format) × (header : ℕ) × (text : List ℕ) × Allowed terms packet format header text)
  -- (with which answer, and which text in the buffer)
  pub allowed-readable : (packet : List ℕ) (answer : ExamineAnswer) → Examines terms packet answer → (format : Format) (header : ℕ) (text : List ℕ)
      → (allowed : Allowed terms packet format header text)
      → answer ≡ Ok (reading_of format header (received packet) text (codes_in format text (data_in header packet) allowed.carries))
  pub allowed-accepted : (packet entry exit : List ℕ) (answer : ReadAnswer) → Reads terms packet entry answer exit
      → (format : Format) (header : ℕ) (text : List ℕ) (allowed : Allowed terms packet format header text) → length text ≤ length entry
      → (answer ≡ Ok (reading_of format header (received packet) text (codes_in format text (data_in header packet) allowed.carries)))
      × StandsInFront text entry exit
  -- (it is a packet that a maker could have built of that text, with no more header bits flipped than are mended, and whatever follows it)
  pub accepted-is-made : (packet : List ℕ) (reading : Reading) (text : List ℕ) → Bytes packet → Accepts terms packet reading text
      → (made after : List ℕ) × Made terms reading.format reading.sync text made × Flipped terms made (received packet)
      × (packet ≡ arriving (received packet) made after) × (reading.mended ≡ distance (received packet) (received made))
      × (reading.mask ≡ bit_xor (received packet) (received made))
  -- Writing that text again in its format gives a packet, in no more bytes than that one had,
  pub written-again : (packet : List ℕ) (reading : Reading) (text : List ℕ) → Accepts terms packet reading text
      → (sync : Bool) (lent exit : List ℕ) (answer : WriteAnswer) → packet_length reading.format text ≤ length lent
      → Writes terms (format_number reading.format) sync text lent answer exit
      → (answer ≡ Ok (packet_length reading.format text))
      × (exit ≡ our_packet reading.format sync text ++ drop (packet_length reading.format text) lent)
      × (packet_length reading.format text ≤ reading.used)
  -- that reads the same in text and format, room given.
  pub reads-the-same : (packet : List ℕ) (reading : Reading) (text : List ℕ) → Accepts terms packet reading text
      → (sync : Bool) (lent again : List ℕ) (wrote : WriteAnswer) → packet_length reading.format text ≤ length lent
      → Writes terms (format_number reading.format) sync text lent wrote again
      → (entry exit : List ℕ) (answer : ReadAnswer) → length text ≤ length entry → Reads terms again entry answer exit
      → (answer
      ≡ Ok (reading_with reading.format sync 0 0 (codes_of reading.format text) (length (data_of reading.format text)) (length text)))
      × StandsInFront text entry exit
