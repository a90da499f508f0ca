-- Bytes after the checksum are not looked at (RULES, Packet).
-- Assumes nothing.
use Rattle.std.specs.Prelude.{List, ◌++◌, ◌≡◌, ℕ, ◌+◌, ◌≤◌, length}
use Rattle.header.specs.Valid.{length_in}
use Rattle.distance.specs.Distance.{ValidWithin}
use Rattle.packet.specs.Packet.{received}
use Rattle.terms.specs.declared.Terms.{Terms}
use Rattle.examine.specs.Examine.{ExamineAnswer}
use Rattle.reader.specs.Reader.{ReadAnswer}
use Rattle.at_300.specs.OneSection.Examine.{Examines}
use Rattle.at_300.specs.OneSection.Reader.{Reads}

-- a slice that holds the whole packet is read as the packet alone, whatever follows
pub record NothingAfter (terms : Terms) : Type 0 where
  pub examined-alone : (packet after : List ℕ) (header : ℕ) → ValidWithin terms.mend (received packet) header → length_in header + 6 ≤ length packet
      → (a b : ExamineAnswer) → Examines terms packet a → Examines terms (packet ++ after) b → a ≡ b
  pub read-alone : (packet after : List ℕ) (header : ℕ) → ValidWithin terms.mend (received packet) header → length_in header + 6 ≤ length packet
      → (entry x y : List ℕ) (a b : ReadAnswer) → Reads terms packet entry a x → Reads terms (packet ++ after) entry b y → (a ≡ b) × (x ≡ y)
