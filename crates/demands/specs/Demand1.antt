-- Demand 1. Every entry point takes what it is handed, at any length, and ends. Each kind of bad input has one refusal number, given under its stated
-- condition and under no other. A refusal changes no byte of a lent buffer; an accepted call writes only the bytes that it counts.
-- The first sentence is what a check says of each function that requires nothing, as `examine::examine`, `reader::read`, `examine::examine_mending`,
-- `reader::read_mending` and `writer::write`. The rest holds at either rate and whatever number of bits is named.
-- Assumes nothing.
use Rattle.std.specs.Prelude.{Bool, List, ◌⊎◌, ◌↔◌, ◌≡◌, ℕ, suc, ◌<◌, length, take, drop, Ok, Err}
use Rattle.header.specs.declared.Format.{Format}
use Rattle.header.specs.declared.Format.TheVariants.{Open, PseudoBinary, Numeric, Shef, FullAscii}
use Rattle.codes.specs.Reading.{DataGives, stuck}
use Rattle.full_ascii.specs.Table as ascii
use Rattle.numeric.specs.Table as numeric
use Rattle.pseudo_binary.specs.Table as pseudo
use Rattle.shef.specs.Table as shef
use Rattle.formats.specs.Data.{Carries, Unreadable, UnreadableAfter, AllCoded, Uncoded, comes_back, data_of}
use Rattle.refusals.specs.declared.ExamineRefusal.{ExamineRefusal}
use Rattle.refusals.specs.declared.ReadRefusal.{ReadRefusal}
use Rattle.refusals.specs.declared.WriteRefusal.{WriteRefusal}
use Rattle.refusals.specs.Match.{ToldAs, reader_turn, writer_turn}
use Rattle.refusals.specs.Refusals.{Told, number_in, examine_told, read_told, write_told}
use Rattle.terms.specs.declared.Terms.{Terms}
use Rattle.examine.specs.declared.Reading.{Reading}
use Rattle.examine.specs.Examine.{ExamineAnswer, Fault, Examines}
use Rattle.reader.specs.Reader.{ReadAnswer, ReadFault, Reads}
use Rattle.writer.specs.Writer.{WriteAnswer, WriteFault, Writes}

-- the answer is the refusal of this number, value and codes exactly when the condition of that number holds, with these, and none that is tested before it
abbrev pub RefusedExactly : (Refusal : Type 0) → (Refusal → Told) → (Refusal → Type 0) → (ℕ → ℕ) → (Refusal → Type 0) → Type 0
RefusedExactly Refusal told Fault turn Answered =
    (as-told : Told)
    → ToldAs Refusal told Answered as-told
    ↔ (ToldAs Refusal told Fault as-told × ((earlier : Told) → turn (number_in earlier) < turn (number_in as-told) → ToldAs Refusal told Fault earlier → ⊥))

-- the bit at which reading the data is stuck, and how many codes were read. Open data never is
abbrev pub StuckAt : Format → List ℕ → (bit codes : ℕ) → Type 0
StuckAt Open carried bit codes = ⊥
StuckAt PseudoBinary carried bit codes = DataGives pseudo.scheme carried (stuck bit codes)
StuckAt Numeric carried bit codes = DataGives numeric.scheme carried (stuck bit codes)
StuckAt Shef carried bit codes = DataGives shef.scheme carried (stuck bit codes)
StuckAt FullAscii carried bit codes = DataGives ascii.scheme carried (stuck bit codes)

pub record Demand1 (terms : Terms) : Type 0 where
  -- Each kind of bad input has one refusal number, given under its stated condition and under no other: 17, then 1 to 7,
  pub examine-refuses : (packet : List ℕ) (answer : ExamineAnswer) → Examines terms packet answer
      → RefusedExactly ExamineRefusal examine_told (Fault terms packet) reader_turn (λ refusal. answer ≡ Err refusal)
  -- 17, then 1 to 8,
  pub read-refuses : (packet entry exit : List ℕ) (answer : ReadAnswer) → Reads terms packet entry answer exit
      → RefusedExactly ReadRefusal read_told (ReadFault terms packet (length entry)) reader_turn (λ refusal. answer ≡ Err refusal)
  -- 12, 10, 9, 11, 8.
  pub write-refuses : (number : ℕ) (sync : Bool) (text entry exit : List ℕ) (answer : WriteAnswer) → Writes terms number sync text entry answer exit
      → RefusedExactly WriteRefusal write_told (WriteFault terms number text (length entry)) writer_turn (λ refusal. answer ≡ Err refusal)
  -- A refusal changes no byte of a lent buffer;
  pub read-refusal-changes-nothing : (packet entry exit : List ℕ) (refusal : ReadRefusal) → Reads terms packet entry (Err refusal) exit → exit ≡ entry
  pub write-refusal-changes-nothing : (number : ℕ) (sync : Bool) (text entry exit : List ℕ) (refusal : WriteRefusal)
      → Writes terms number sync text entry (Err refusal) exit → exit ≡ entry
  -- an accepted call writes only the bytes that it counts: behind them the buffer is as it was.
  pub read-writes-counted : (packet entry exit : List ℕ) (reading : Reading) → Reads terms packet entry (Ok reading) exit
      → drop reading.text_length exit ≡ drop reading.text_length entry
  pub write-writes-counted : (number : ℕ) (sync : Bool) (text entry exit : List ℕ) (n : ℕ) → Writes terms number sync text entry (Ok n) exit
      → drop n exit ≡ drop n entry

-- what the conditions of 7, 9 and 11 come to
pub record Conditions (terms : Terms) : Type 0 where
  -- 7: data that has such a place carries no text, and data that carries no text has such a place
  pub malformed-means : (format : Format) (carried : List ℕ)
      → ((bit : ℕ) × Unreadable format carried bit) ↔ ((text : List ℕ) → Carries format text carried → ⊥)
  -- its bit is where reading the data, as RULES has it read, is stuck, and its codes are those that were read
  pub malformed-bit : (format : Format) (carried : List ℕ) (bit codes : ℕ) → UnreadableAfter format carried bit codes ↔ StuckAt format carried bit codes
  -- 9: what is carried has codes; and of a text that has codes our data carries what it comes back as
  pub carried-coded : (format : Format) (text carried : List ℕ) → Carries format text carried → AllCoded format text
  pub coded-carried : (format : Format) (text : List ℕ) → AllCoded format text → Carries format (comes_back format text) (data_of format text)
  -- its index: the characters before it have codes, and with it they do not
  pub no-code-index : (format : Format) (text : List ℕ) (index : ℕ)
      → Uncoded format text index ↔ ((index < length text) × AllCoded format (take index text) × (AllCoded format (take (suc index) text) → ⊥))
  -- and as it is said: no data carries what the text up to and including it comes back as, while nothing stands before it or some data carries what the
  -- text before it comes back as
  pub no-code-means : (format : Format) (text : List ℕ) (index : ℕ)
      → Uncoded format text index
      ↔ ((index < length text) × ((index ≡ 0) ⊎ ((carried : List ℕ) × Carries format (comes_back format (take index text)) carried))
      × ((carried : List ℕ) → Carries format (comes_back format (take (suc index) text)) carried → ⊥))
  -- 11: the text fits in no single packet of the format
  pub too-long-means : (format : Format) (text : List ℕ) → AllCoded format text
      → (terms.most < length (data_of format text)) ↔ ((carried : List ℕ) → Carries format (comes_back format text) carried → terms.most < length carried)
