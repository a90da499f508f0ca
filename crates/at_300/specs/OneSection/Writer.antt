-- What the writer answers (RULES, Refusals: 12, 10, 9, 11, 8), and what stands in the packet buffer afterwards.
-- Assumes nothing.
use Rattle.std.specs.Prelude.{Bool, List, [], ◌++◌, ◌≡◌, ℕ, ◌+◌, ◌≤◌, ◌<◌, length, drop, Ok, Err}
use Rattle.header.specs.declared.Format.{Format}
use Rattle.header.specs.Formats.{format_number}
use Rattle.formats.specs.Data.{Uncoded, AllCoded, data_of}
use Rattle.packet.specs.Packet.{header_for}
use Rattle.refusals.specs.declared.WriteRefusal.{WriteRefusal}
use Rattle.refusals.specs.declared.WriteRefusal.TheVariants.{OtherFormat, Empty, NoCode, TooLong, NoRoom}
use Rattle.refusals.specs.Match.{FirstMatch, writer_turn}
use Rattle.refusals.specs.Refusals.{write_told}
use Rattle.terms.specs.declared.Terms.{Terms}
use Rattle.writer.specs.Writer.{WriteAnswer, InFormat}
use Rattle.at_300.specs.OneSection.Packet.{packet_of}

-- the packet that our writer makes of a text
unfoldable pub our_packet : Format → Bool → List ℕ → List ℕ
our_packet format sync text = packet_of (header_for format sync (length (data_of format text))) (data_of format text)

-- the stated condition of each refusal, for a packet buffer of so many bytes
abbrev pub WriteFault : Terms → ℕ → List ℕ → ℕ → WriteRefusal → Type 0
WriteFault terms number text room OtherFormat = (format : Format) → format_number format ≡ number → ⊥
WriteFault terms number text room Empty = text ≡ []
WriteFault terms number text room (NoCode index) = InFormat number (λ format. Uncoded format text index)
WriteFault terms number text room TooLong = InFormat number (λ format. terms.most < length (data_of format text))
WriteFault terms number text room (NoRoom needed) = InFormat number (λ format. (needed ≡ length (data_of format text) + 6) × (room < needed))

-- tested in the order 12, 10, 9, 11, 8
abbrev pub WriteRefuses : Terms → ℕ → List ℕ → ℕ → WriteRefusal → Type 0
WriteRefuses terms number text room = FirstMatch WriteRefusal write_told (WriteFault terms number text room) writer_turn

-- the text is written: a format of ours, some text, a code for each character, no more data than may be, and room
pub record WriteAccepts (terms : Terms) (number : ℕ) (text : List ℕ) (room : ℕ) (format : Format) (written : ℕ) : Type 0 where
  pub named : format_number format ≡ number
  pub some : 0 < length text
  pub coded : AllCoded format text
  pub few : length (data_of format text) ≤ terms.most
  pub fits : written ≡ length (data_of format text) + 6
  pub held : written ≤ room

-- the answer, and the packet buffer afterwards
abbrev pub Writes : Terms → ℕ → Bool → List ℕ → List ℕ → WriteAnswer → List ℕ → Type 0
Writes terms number sync text entry (Ok length') exit =
    (format : Format) × WriteAccepts terms number text (length entry) format length' × (exit ≡ our_packet format sync text ++ drop length' entry)
Writes terms number sync text entry (Err refusal) exit = WriteRefuses terms number text (length entry) refusal × (exit ≡ entry)
