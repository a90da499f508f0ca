-- For every input the promises of the entry points leave one answer and one content of the lent buffer (RULES, What a promise says); what `examine` and the
-- reader say of one packet agrees; no text has two buildings in Numeric or SHEF; what any maker may build of a text in Pseudo Binary; and bytes after the
-- last checksum are not looked at (RULES, Packet).
-- Assumes nothing.
use Rattle.std.specs.Prelude.{Bool, List, ◌++◌, ◌↔◌, ◌≡◌, ℕ, ◌≤◌, ◌<◌, length, Ok, Err}
use Rattle.bits.specs.Row.{Bytes}
use Rattle.header.specs.declared.Format.TheVariants.{PseudoBinary, Numeric, Shef}
use Rattle.header.specs.Valid.{length_in}
use Rattle.distance.specs.Distance.{ValidWithin}
use Rattle.pseudo_binary.specs.Makers.{BuildsOf}
use Rattle.formats.specs.Data.{Carries, comes_back}
use Rattle.refusals.specs.declared.ExamineRefusal.{ExamineRefusal}
use Rattle.refusals.specs.declared.ReadRefusal.TheVariants.{Packet, NoRoom}
use Rattle.terms.specs.declared.Terms.{Terms}
use Rattle.examine.specs.declared.Reading.{Reading}
use Rattle.examine.specs.Examine.{ExamineAnswer, Examines}
use Rattle.packet.specs.Packet.{whole_length, received}
use Rattle.reader.specs.Reader.{ReadAnswer, Reads}
use Rattle.writer.specs.Writer.{WriteAnswer, Writes}

pub record OneAnswer (terms : Terms) : Type 0 where
  pub examines-one : (packet : List ℕ) (a b : ExamineAnswer) → Examines terms packet a → Examines terms packet b → a ≡ b
  pub reads-one : (packet entry : List ℕ) (a b : ReadAnswer) (x y : List ℕ) → Reads terms packet entry a x → Reads terms packet entry b y → (a ≡ b) × (x ≡ y)
  pub writes_one : (number : ℕ) (sync : Bool) (text entry : List ℕ) (a b : WriteAnswer) (x y : List ℕ)
      → Writes terms number sync text entry a x → Writes terms number sync text entry b y → (a ≡ b) × (x ≡ y)

-- where the tables have one code for each thing that they say, no text has two buildings, so none of equally few bits (RULES, Formats)
pub record OneBuilding : Type 0 where
  pub in-numeric : (text a b : List ℕ) → Bytes a → Bytes b → Carries Numeric text a → Carries Numeric text b → a ≡ b
  pub in-shef : (text a b : List ℕ) → Bytes a → Bytes b → Carries Shef text a → Carries Shef text b → a ≡ b

-- what a maker may build, by the building of the text itself: in Pseudo Binary its runs cut as that maker likes, and each value as its low six bits. That
-- is all the data, and the only data, that carries what the text comes back as
pub record Buildings : Type 0 where
  pub in-pseudo-binary : (text carried : List ℕ) → BuildsOf text carried ↔ Carries PseudoBinary (comes_back PseudoBinary text) carried

-- of one packet, examined and read into a buffer
pub record Agreement (terms : Terms) : Type 0 where
  pub both-refuse : (packet entry exit : List ℕ) (examined : ExamineAnswer) (read : ReadAnswer) → Examines terms packet examined
      → Reads terms packet entry read exit → (refusal : ExamineRefusal) → (examined ≡ Err refusal) ↔ (read ≡ Err (Packet refusal))
  pub room-decides : (packet entry exit : List ℕ) (reading : Reading) (read : ReadAnswer) → Examines terms packet (Ok reading)
      → Reads terms packet entry read exit
      → (reading.text_length ≤ length entry → read ≡ Ok reading)
      × (length entry < reading.text_length → read ≡ Err (NoRoom reading.text_length))

-- a slice that holds the whole packet is read as the packet alone, whatever follows
pub record NothingAfter (terms : Terms) : Type 0 where
  pub examined-alone : (packet after : List ℕ) (header : ℕ) → ValidWithin terms.mend (received packet) header → whole_length (length_in header) ≤ length packet
      → (a b : ExamineAnswer) → Examines terms packet a → Examines terms (packet ++ after) b → a ≡ b
  pub read-alone : (packet after : List ℕ) (header : ℕ) → ValidWithin terms.mend (received packet) header → whole_length (length_in header) ≤ length packet
      → (entry x y : List ℕ) (a b : ReadAnswer) → Reads terms packet entry a x → Reads terms (packet ++ after) entry b y → (a ≡ b) × (x ≡ y)
