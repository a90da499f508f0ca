-- Demand 3, of damage: if only one data byte or two neighbouring ones changed, or only one or both checksum bytes, the reader refuses by checksum and hands
-- out nothing.
-- Assumes nothing.
use Rattle.std.specs.Prelude.{Bool, List, [], ◌∷◌, ◌++◌, ◌≢◌, ◌≡◌, ℕ, Err}
use Rattle.bits.specs.Row.{Bytes}
use Rattle.header.specs.declared.Format.{Format}
use Rattle.header.specs.Fields.{bytes_of}
use Rattle.checksum.specs.Alike.{AlikeBut}
use Rattle.checksum.specs.Checksum.{checksum_bytes}
use Rattle.refusals.specs.declared.ExamineRefusal.TheVariants.{Checksum}
use Rattle.refusals.specs.declared.ReadRefusal.TheVariants.{Packet}
use Rattle.terms.specs.declared.Terms.{Terms}
use Rattle.reader.specs.Reader.{ReadAnswer}
use Rattle.demands.specs.Makers.{Flipped}
use Rattle.at_300.specs.OneSection.Makers.{Made}
use Rattle.at_300.specs.OneSection.Reader.{Reads}

-- what the reader does with the packet in its slice: it refuses by checksum, and the buffer is as it was
abbrev pub RefusedByChecksum : List ℕ → ReadAnswer → List ℕ → Type 0
RefusedByChecksum entry answer exit = (answer ≡ Err (Packet (Checksum 0))) × (exit ≡ entry)

-- of a packet that was made, and of 32 bits that came for its header, whatever follows it
pub record Damaged (terms : Terms) : Type 0 where
  -- If only one data byte or two neighbouring ones changed, and what was sent and what came are bytes: refused by checksum.
  pub damaged-data : (format : Format) (sync : Bool) (text packet : List ℕ) (made : Made terms format sync text packet) (word : ℕ)
      → Flipped terms packet word → (after entry exit : List ℕ) (answer : ReadAnswer) (place : ℕ) (other : List ℕ)
      → Bytes made.carried → Bytes other → AlikeBut place other made.carried → other ≢ made.carried
      → Reads terms (bytes_of word ++ (other ++ (checksum_bytes made.carried ++ after))) entry answer exit
      → RefusedByChecksum entry answer exit
  -- If only one or both checksum bytes: refused by checksum.
  pub damaged-sum : (format : Format) (sync : Bool) (text packet : List ℕ) (made : Made terms format sync text packet) (word : ℕ)
      → Flipped terms packet word → (after entry exit : List ℕ) (answer : ReadAnswer) (low high : ℕ) → low ∷ high ∷ [] ≢ checksum_bytes made.carried
      → Reads terms (bytes_of word ++ (made.carried ++ (low ∷ high ∷ after))) entry answer exit
      → RefusedByChecksum entry answer exit
