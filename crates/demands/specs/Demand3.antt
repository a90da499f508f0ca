-- Demand 3. Take a packet that any maker could have built under our rules, runs and line ends cut as that maker liked, and flip up to the named number of
-- its 32 header bits. With data and checksum intact and room for the text, the reader returns exactly the sent text (as what it comes back as:
-- RULES, Formats), format and sync bit, with the true number of mended bits, and the mask is exactly the bits that were flipped. If behind the
-- header only one data byte or two neighbouring ones of one section changed, or only one or both bytes of one section's checksum, it refuses by checksum with
-- that section's number and hands out nothing. And with more header bits flipped than named, but together with the named number at most four, the answer is
-- refusal 2, never another reading. All this holds at either rate and for each number that may be named.
-- Assumes nothing.
use Rattle.std.specs.Prelude.{Bool, List, [], ◌∷◌, ◌++◌, ◌≢◌, ◌↔◌, ◌≡◌, ℕ, ◌≤◌, ◌<◌, length, drop, Ok, Err}
use Rattle.std.specs.Int.Bits.{bit_xor}
use Rattle.bits.specs.Row.{Bytes}
use Rattle.bits.specs.Word.{bit}
use Rattle.header.specs.declared.Format.{Format}
use Rattle.header.specs.Fields.{bytes_of}
use Rattle.distance.specs.Distance.{distance}
use Rattle.checksum.specs.Alike.{AlikeBut}
use Rattle.checksum.specs.Checksum.{checksum_bytes}
use Rattle.formats.specs.Data.{codes_in, comes_back}
use Rattle.refusals.specs.declared.ExamineRefusal.TheVariants.{NoHeader, Checksum}
use Rattle.refusals.specs.declared.ReadRefusal.TheVariants.{Packet}
use Rattle.terms.specs.declared.Terms.{Terms}
use Rattle.examine.specs.declared.Reading.{Reading}
use Rattle.packet.specs.Packet.{received}
use Rattle.sections.specs.Sections.{section_count, section, besides}
use Rattle.examine.specs.Examine.{ExamineAnswer, Accepts, Examines}
use Rattle.reader.specs.Reader.{ReadAnswer, Reads}
use Rattle.demands.specs.Makers.{Made, Flipped, FlippedBeyond, arriving, reading_with}

-- what the reader does with the packet in its slice: it refuses by the checksum of this section, and the buffer is as it was
abbrev pub RefusedByChecksum : ℕ → List ℕ → ReadAnswer → List ℕ → Type 0
RefusedByChecksum k entry answer exit = (answer ≡ Err (Packet (Checksum k))) × (exit ≡ entry)

-- of a packet that was made, and of 32 bits that came for its header, whatever follows it
pub record Demand3 (terms : Terms) : Type 0 where
  -- With data and checksum intact and room for the text: exactly the text, format and sync bit, the number of flipped bits, which they are, and as many
  -- codes as the maker's data has.
  pub intact : (format : Format) (sync : Bool) (text packet : List ℕ) (made : Made terms format sync text packet) (word : ℕ) → Flipped terms packet word
      → (after entry exit : List ℕ) (answer : ReadAnswer) → length (comes_back format text) ≤ length entry
      → Reads terms (arriving word packet after) entry answer exit
      → (answer
      ≡ Ok
      (reading_with format sync (distance word (received packet)) (bit_xor word (received packet))
      (codes_in format (comes_back format text) made.carried made.carries) (length made.carried) (length (comes_back format text))))
      × (exit ≡ comes_back format text ++ drop (length (comes_back format text)) entry)
  -- The mask is exactly the bits that were flipped, read into a buffer or examined: bit k of it (31 is the flag's parity bit) is 1 where bit k of what came
  -- is not that of what was sent.
  pub flipped-told : (format : Format) (sync : Bool) (text packet : List ℕ) → Made terms format sync text packet → (word : ℕ) → Flipped terms packet word
      → (after : List ℕ) (reading : Reading) (read : List ℕ) → Accepts terms (arriving word packet after) reading read
      → (k : ℕ) → (bit k reading.mask ≡ 1) ↔ (bit k word ≢ bit k (received packet))
  -- If one data byte of section k or two neighbouring ones changed, and what was sent and what came are bytes: refused by checksum, with k.
  pub damaged-data : (format : Format) (sync : Bool) (text packet : List ℕ) (made : Made terms format sync text packet) (word : ℕ)
      → Flipped terms packet word → (after entry exit : List ℕ) (answer : ReadAnswer) (k : ℕ) → k < section_count (length made.carried)
      → (place : ℕ) (other : List ℕ) → Bytes (section made.carried k) → Bytes other → AlikeBut place other (section made.carried k)
      → other ≢ section made.carried k
      → Reads terms (bytes_of word ++ (besides made.carried k (other ++ checksum_bytes (section made.carried k)) ++ after)) entry answer exit
      → RefusedByChecksum k entry answer exit
  -- If one or both bytes of its checksum: refused by checksum, with k.
  pub damaged-sum : (format : Format) (sync : Bool) (text packet : List ℕ) (made : Made terms format sync text packet) (word : ℕ)
      → Flipped terms packet word → (after entry exit : List ℕ) (answer : ReadAnswer) (k : ℕ) → k < section_count (length made.carried)
      → (low high : ℕ) → low ∷ high ∷ [] ≢ checksum_bytes (section made.carried k)
      → Reads terms (bytes_of word ++ (besides made.carried k (section made.carried k ++ (low ∷ high ∷ [])) ++ after)) entry answer exit
      → RefusedByChecksum k entry answer exit
  -- With more header bits flipped than named, but together with the named number at most four, whatever stands behind the header: refusal 2, and nothing
  -- handed out;
  pub beyond : (format : Format) (sync : Bool) (text packet : List ℕ) → Made terms format sync text packet → (word : ℕ) → FlippedBeyond terms packet word
      → (behind entry exit : List ℕ) (answer : ReadAnswer) → Reads terms (bytes_of word ++ behind) entry answer exit
      → (answer ≡ Err (Packet NoHeader)) × (exit ≡ entry)
  -- also without a buffer.
  pub beyond-examined : (format : Format) (sync : Bool) (text packet : List ℕ) → Made terms format sync text packet → (word : ℕ)
      → FlippedBeyond terms packet word → (behind : List ℕ) (answer : ExamineAnswer) → Examines terms (bytes_of word ++ behind) answer
      → answer ≡ Err NoHeader
