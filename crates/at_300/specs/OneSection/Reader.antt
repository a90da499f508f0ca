-- What the reader answers (RULES, Refusals: 17, then 1 to 8), and what stands in the text buffer afterwards.
-- Assumes nothing.
use Rattle.std.specs.Prelude.{List, ◌++◌, ◌≡◌, ℕ, ◌≤◌, ◌<◌, length, drop, Ok, Err}
use Rattle.header.specs.declared.Format.{Format}
use Rattle.header.specs.Fields.{fields_in}
use Rattle.header.specs.Formats.{HasFormat}
use Rattle.formats.specs.Data.{Carries}
use Rattle.refusals.specs.declared.ReadRefusal.{ReadRefusal}
use Rattle.refusals.specs.declared.ReadRefusal.TheVariants.{Packet, NoRoom}
use Rattle.refusals.specs.Match.{FirstMatch, reader_turn}
use Rattle.refusals.specs.Refusals.{read_told}
use Rattle.terms.specs.declared.Terms.{Terms}
use Rattle.reader.specs.Reader.{ReadAnswer}
use Rattle.examine.specs.Examine.{UnderHeader}
use Rattle.at_300.specs.OneSection.Examine.{Fault, Accepts}
use Rattle.at_300.specs.OneSection.Packet.{data_in}

-- the stated condition of each refusal, for a text buffer of so many bytes: those of the packet, and that the text is longer than the buffer
abbrev pub ReadFault : Terms → List ℕ → ℕ → ReadRefusal → Type 0
ReadFault terms packet room (Packet refusal) = Fault terms packet refusal
ReadFault terms packet room (NoRoom needed) =
    UnderHeader terms packet
    (λ header.
    (format : Format) × HasFormat (fields_in header) format
    × ((text : List ℕ) × Carries format text (data_in header packet) × (length text ≡ needed) × (room < needed)))

-- tested in the order 17, 1 to 8
abbrev pub ReadRefuses : Terms → List ℕ → ℕ → ReadRefusal → Type 0
ReadRefuses terms packet room = FirstMatch ReadRefusal read_told (ReadFault terms packet room) reader_turn

-- the answer, and the text buffer afterwards: as it was on refusal; on acceptance the text, and behind it as it was
abbrev pub Reads : Terms → List ℕ → List ℕ → ReadAnswer → List ℕ → Type 0
Reads terms packet entry (Ok reading) exit =
    (text : List ℕ) × Accepts terms packet reading text × (length text ≤ length entry) × (exit ≡ text ++ drop (length text) entry)
Reads terms packet entry (Err refusal) exit = ReadRefuses terms packet (length entry) refusal × (exit ≡ entry)
