-- The reader's promise leaves one answer and one content of the text buffer.
-- Assumes nothing.
use mathlib.Core.List.{List, ◌++◌}
use mathlib.Core.Path.{◌≡◌, refl, sym, ap, ◌∙◌, subst, subst⁻¹}
use Prim.Native.Nat.{ℕ, ◌≤◌, ◌<◌}
use native.Mathlib.Decide.{dec_le}
use native.Mathlib.Omega.{arith}
use lib.ListN.{length, drop}
use Rattle.std.specs.Prelude.{Ok, Err, IsErrAnd}
use Rattle.header.specs.declared.Format.{Format}
use Rattle.header.specs.Fields.{fields_in}
use Rattle.header.specs.Formats.{HasFormat}
use Rattle.header.proofs.Formats.{one_format}
use Rattle.distance.specs.Distance.{ValidWithin}
use Rattle.formats.specs.Data.{Carries}
use Rattle.formats.proofs.Formats.{carries-one}
use Rattle.refusals.specs.declared.ExamineRefusal.{ExamineRefusal}
use Rattle.refusals.specs.declared.ExamineRefusal.TheVariants.{TooManyBits}
use Rattle.refusals.specs.declared.ReadRefusal.{ReadRefusal}
use Rattle.refusals.specs.declared.ReadRefusal.TheVariants.{Packet, NoRoom}
use Rattle.refusals.specs.Match.{reader_turn}
use Rattle.refusals.specs.Refusals.{number_in, examine_told, read_told}
use Rattle.refusals.proofs.Known.{before-room}
use Rattle.terms.specs.declared.Terms.{Terms}
use Rattle.examine.specs.declared.Reading.{Reading}
use Rattle.examine.specs.Examine.{Refuses, Accepts}
use Rattle.packet.specs.Packet.{received, data_in}
use Rattle.reader.specs.Reader.{ReadAnswer, ReadFault, ReadRefuses, Reads}
use Rattle.terms.specs.Terms.{MayMend, OnePacket, MayBeNamed}
use Rattle.examine.proofs.ExamineOnce.{refuses-one, accepts-no-fault, accepts-one-text, accepts-one-reading, only-too-many, never-accepted}
use Rattle.examine.proofs.Headers.{under}

module _ (terms : Terms) (packet : List ℕ) (room : ℕ) where
  -- a packet that is refused is refused so whatever the room, since that is tested last; and the other way round
  before : (r : ExamineRefusal) → Refuses terms packet r → (other : ReadRefusal)
      → reader_turn (number_in (read_told other)) < reader_turn (number_in (examine_told r)) → ReadFault terms packet room other → ⊥
  before r p (Packet s) lt f = p.first s lt f
  before r p (NoRoom n) lt f = omega (arith, before-room r)

  pub refused-packet : (r : ExamineRefusal) → Refuses terms packet r → ReadRefuses terms packet room (Packet r)
  refused-packet r p = record { fault = p.fault; first = before r p }

  pub packet-refused : (r : ExamineRefusal) → ReadRefuses terms packet room (Packet r) → Refuses terms packet r
  packet-refused r p = record { fault = p.fault; first = λ s lt f. p.first (Packet s) lt f }

  module _ (named : MayBeNamed terms) where
    -- a text that the data carries under the header that the packet is read as is as long as one for which there is no room
    carried-long : (header : ℕ) → ValidWithin terms.mend (received packet) header → (format : Format) → HasFormat (fields_in header) format
        → (text : List ℕ) → Carries format text (data_in header packet) → (n : ℕ) → ReadFault terms packet room (NoRoom n) → (length text ≡ n) × (room < n)
    carried-long header near format typed text carries n f =
        let other =
        under terms named packet
        (λ (h : ℕ). (k : Format) × HasFormat (fields_in h) k × ((t : List ℕ) × Carries k t (data_in h packet) × (length t ≡ n) × (room < n))) header near f in (
          ap length
              (carries-one format text other.2.0 (data_in header packet) carries
              (subst (λ (k : Format). Carries k other.2.0 (data_in header packet)) (one_format other.1 typed) other.2.1))
              ∙ other.2.2,
          other.2.3,
        )

    needs : (m n : ℕ) → ReadFault terms packet room (NoRoom m) → ReadFault terms packet room (NoRoom n) → m ≡ n
    needs m n (header, near, (format, typed, (text, carries, long, short))) g = sym long ∙ (carried-long header near format typed text carries n g).0

    pub read-refuses-one : (r s : ReadRefusal) → ReadRefuses terms packet room r → ReadRefuses terms packet room s → r ≡ s
    read-refuses-one (Packet r) (Packet s) p q = ap {B = ReadRefusal} Packet (refuses-one terms named packet r s (packet-refused r p) (packet-refused s q))
    read-refuses-one (Packet r) (NoRoom n) p q = absurd (q.first (Packet r) (before-room r) p.fault)
    read-refuses-one (NoRoom m) (Packet s) p q = absurd (p.first (Packet s) (before-room s) q.fault)
    read-refuses-one (NoRoom m) (NoRoom n) p q = ap {B = ReadRefusal} NoRoom (needs m n p.fault q.fault)

    -- what is accepted, with room, meets no refusal's condition
    pub reads-no-fault : (reading : Reading) (text : List ℕ) → Accepts terms packet reading text → length text ≤ room → (r : ReadRefusal)
        → ReadFault terms packet room r → ⊥
    reads-no-fault reading text a held (Packet r) f = accepts-no-fault terms named packet reading text a r f
    reads-no-fault reading text a held (NoRoom n) f =
        let long = carried-long a.header a.allowed.framed.near a.format a.allowed.framed.typed text a.allowed.carries n f in
        omega (arith, long.0, long.1)

-- as `?` answers it
pub refused-on : (terms : Terms) (packet entry : List ℕ) (r : ExamineRefusal) → Refuses terms packet r → (answer : ReadAnswer)
    → IsErrAnd answer (λ (s : ReadRefusal). s ≡ Packet r) → Reads terms packet entry answer entry
refused-on terms packet entry r p (Ok reading) none = absurd none
refused-on terms packet entry r p (Err s) same =
    (subst⁻¹ (ReadRefuses terms packet (length entry)) same (refused-packet terms packet (length entry) r p), refl)

-- where more bits are named than may be, the packet is refused for that, and nothing is read
pub read-too-many : (terms : Terms) (packet entry : List ℕ) → (MayMend terms.mend → ⊥) → (answer : ReadAnswer) (exit : List ℕ)
    → Reads terms packet entry answer exit → (answer ≡ Err (Packet TooManyBits)) × (exit ≡ entry)
read-too-many terms packet entry many (Ok reading) exit (text, a, held, same) = absurd (never-accepted terms packet many reading text a)
read-too-many terms packet entry many (Err (Packet r)) exit (p, same) =
    (ap (λ (s : ExamineRefusal). Err (Packet s)) (only-too-many terms packet many r (packet-refused terms packet (length entry) r p)), same)
read-too-many terms packet entry many (Err (NoRoom n)) exit (p, same) = absurd (p.first (Packet TooManyBits) (before-room TooManyBits) many)

-- one answer and one content, whatever number is named
pub reads-one : (terms : Terms) → OnePacket terms.most → (packet entry : List ℕ) (a b : ReadAnswer) (x y : List ℕ)
    → Reads terms packet entry a x → Reads terms packet entry b y → (a ≡ b) × (x ≡ y)
reads-one terms bytes packet entry a b x y p q = pick (dec_le terms.mend 2)
  where
    same : MayBeNamed terms → (a b : ReadAnswer) (x y : List ℕ) → Reads terms packet entry a x → Reads terms packet entry b y → (a ≡ b) × (x ≡ y)
    same named (Ok a) (Ok b) x y (t, p, h, e) (u, q, k, f) = (
      ap {B = ReadAnswer} Ok (accepts-one-reading terms named packet a b t u p q),
      e ∙ ap (λ (l : List ℕ). l ++ drop (length l) entry) (accepts-one-text terms named packet a b t u p q) ∙ sym f,
    )
    same named (Ok a) (Err s) x y (t, p, h, e) (q, f) = absurd (reads-no-fault terms packet (length entry) named a t p h s q.fault)
    same named (Err r) (Ok b) x y (p, e) (u, q, k, f) = absurd (reads-no-fault terms packet (length entry) named b u q k r p.fault)
    same named (Err r) (Err s) x y (p, e) (q, f) =
        (ap {B = ReadAnswer} Err (read-refuses-one terms packet (length entry) named r s p q), e ∙ sym f)

    pick : Dec (terms.mend ≤ 2) → (a ≡ b) × (x ≡ y)
    pick (yes bits) = same (record { bits = bits; bytes = bytes }) a b x y p q
    pick (no many) =
        let first = read-too-many terms packet entry many a x p in
        let second = read-too-many terms packet entry many b y q in
        (first.0 ∙ sym second.0, first.1 ∙ sym second.1)
