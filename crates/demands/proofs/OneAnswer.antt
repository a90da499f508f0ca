-- The promises of the entry points leave one answer and one content; what `examine` and the reader say agrees; what any maker may build of a text; and bytes
-- after the checksum change nothing.
-- Assumes nothing.
use mathlib.Core.List.{List, ◌++◌}
use mathlib.Core.Logic.{◌⊎◌, ◌↔◌}
use mathlib.Core.Path.{◌≡◌, refl, sym, ap, ◌∙◌, subst}
use Prim.Native.Nat.{ℕ, ◌≤◌, ◌<◌}
use native.Mathlib.Decide.{dec_le}
use native.Mathlib.Omega.{arith}
use lib.ListN.{length, drop, length-append, length-drop}
use lib.Seq.{drop-append-le}
use Rattle.std.specs.Prelude.{Ok, Err}
use Rattle.header.specs.declared.Format.{Format}
use Rattle.header.specs.Fields.{fields_in}
use Rattle.header.specs.Formats.{HasFormat}
use Rattle.header.specs.Valid.{length_in}
use Rattle.distance.specs.Distance.{ValidWithin}
use Rattle.sections.specs.Sections.{sent_length, joined, RightSums, FirstWrong}
use Rattle.sections.proofs.Behind.{joined-alike, sums-alike, wrong-alike, wrong-alone}
use Rattle.numeric.proofs.Writer as numeric-writer
use Rattle.pseudo_binary.proofs.Makers as pseudo-makers
use Rattle.shef.proofs.Writer as shef-writer
use Rattle.formats.specs.Data.{Carries, UnreadableAfter}
use Rattle.formats.proofs.Codes.{codes_same}
use Rattle.refusals.specs.declared.ExamineRefusal.{ExamineRefusal}
use Rattle.refusals.specs.declared.ExamineRefusal.TheVariants.{TooManyBits, Short, NoHeader, OtherType, OtherLength, CutOff, Checksum, Malformed}
use Rattle.refusals.specs.declared.ReadRefusal.{ReadRefusal}
use Rattle.refusals.specs.declared.ReadRefusal.TheVariants.{Packet, NoRoom}
use Rattle.terms.specs.declared.Terms.{Terms}
use Rattle.examine.specs.declared.Reading.{Reading}
use Rattle.examine.specs.Examine.{ExamineAnswer, Fault, Refuses, Allowed, reading_of, Accepts, Examines}
use Rattle.packet.specs.Packet.{whole_length, received, data_in, FirstUnsummed}
use Rattle.packet.proofs.Sent.{received-behind}
use Rattle.reader.specs.Reader.{ReadAnswer, ReadFault, Reads}
use Rattle.terms.specs.Terms.{OnePacket, MayBeNamed}
use Rattle.examine.proofs.ExamineOnce.{examined-too-many, examines-one}
use Rattle.examine.proofs.Headers.{one-header, under}
use Rattle.reader.proofs.ReadAnswers.{no_room, read-into}
use Rattle.reader.proofs.ReadOnce.{refused-packet, packet-refused, read-too-many, reads-one}
use Rattle.writer.proofs.WriteOnce.{writes_one}
use Rattle.demands.specs.OneAnswer.{OneAnswer, OneBuilding, Buildings, Agreement, NothingAfter}

pub one-building : OneBuilding
one-building = record { in-numeric = numeric-writer.one-building; in-shef = shef-writer.one-building }

pub buildings : Buildings
buildings = record { in-pseudo-binary = pseudo-makers.builds-back }

module _ (terms : Terms) (bytes : OnePacket terms.most) where
  pub one_answer : OneAnswer terms
  one_answer = record { examines-one = examines-one terms bytes; reads-one = reads-one terms bytes; writes_one = writes_one terms }

  -- ---- examined and read

  both-refuse : (packet entry exit : List ℕ) (examined : ExamineAnswer) (read : ReadAnswer) → Examines terms packet examined → Reads terms packet entry read exit
      → (refusal : ExamineRefusal) → (examined ≡ Err refusal) ↔ (read ≡ Err (Packet refusal))
  both-refuse packet entry exit examined read examines reads r = (
    λ e.
        (reads-one terms bytes packet entry read (Err (Packet r)) exit entry reads
        (refused-packet terms packet (length entry) r (subst (Examines terms packet) e examines), refl)
        ).0,
    λ e.
        examines-one terms bytes packet examined (Err r) examines
        (packet-refused terms packet (length entry) r (subst (λ (a : ReadAnswer). Reads terms packet entry a exit) e reads).0),
  )

  pub agreement : Agreement terms
  agreement = record {
    both-refuse = both-refuse;
    room-decides = λ packet entry exit reading read examines reads. (
      λ held.
          (reads-one terms bytes packet entry read (Ok reading) exit (examines.0 ++ drop (length examines.0) entry) reads
          (read-into terms packet entry reading examines.0 examines.1 held)
          ).0,
      λ short.
          (reads-one terms bytes packet entry read (Err (NoRoom reading.text_length)) exit entry reads
          (no_room terms packet (record { bits = examines.1.allowed.framed.bits; bytes = bytes }) entry reading examines.0 examines.1 reading.text_length refl short)
          ).0,
    );
  }

-- ---- bytes after the checksum

-- two slices that hold whole packets under one header, with the same data and the same checksums, meet the same conditions
module _ (terms : Terms) (named : MayBeNamed terms) (p q : List ℕ) (header : ℕ) (near : ValidWithin terms.mend (received p) header)
    (near' : ValidWithin terms.mend (received q) header) (whole : whole_length (length_in header) ≤ length p) (same-data : data_in header q ≡ data_in header p)
    (same-wrong : (k : ℕ) → FirstUnsummed header p k → FirstUnsummed header q k) where
  moves : (r : ExamineRefusal) → Fault terms p r → Fault terms q r
  moves TooManyBits f = f
  moves Short f = absurd (let no' : ⊥ = omega arith in no')
  moves NoHeader f = absurd (f header near)
  moves OtherType f = (header, near', under terms named p (λ (h : ℕ). (k : Format) → HasFormat (fields_in h) k → ⊥) header near f)
  moves OtherLength f = (header, near', under terms named p (λ (h : ℕ). (length_in h ≡ 0) ⊎ (terms.most < length_in h)) header near f)
  moves CutOff f =
      let short = under terms named p (λ (h : ℕ). length p < whole_length (length_in h)) header near f in absurd (let no' : ⊥ = omega arith in no')
  moves (Checksum k) f = (header, near', same-wrong k (under terms named p (λ (h : ℕ). FirstUnsummed h p k) header near f))
  moves (Malformed i codes) f =
      let u = under terms named p (λ (h : ℕ). (k : Format) × HasFormat (fields_in h) k × UnreadableAfter k (data_in h p) i codes) header near f in
      (header, near', (u.0, u.1, subst (λ (l : List ℕ). UnreadableAfter u.0 l i codes) (sym same-data) u.2))

  read-moves : (room : ℕ) (r : ReadRefusal) → ReadFault terms p room r → ReadFault terms q room r
  read-moves room (Packet r) f = moves r f
  read-moves room (NoRoom n) f =
      let u =
      under terms named p
      (λ (h : ℕ). (k : Format) × HasFormat (fields_in h) k × ((t : List ℕ) × Carries k t (data_in h p) × (length t ≡ n) × (room < n))) header near f in
      (header, near', (u.0, u.1, (u.2.0, subst (Carries u.0 u.2.0) (sym same-data) u.2.1, u.2.2, u.2.3)))

module _ (terms : Terms) (named : MayBeNamed terms) (packet after : List ℕ) (header : ℕ) (near : ValidWithin terms.mend (received packet) header)
    (whole : whole_length (length_in header) ≤ length packet) where
  same_received : received (packet ++ after) ≡ received packet
  same_received = received-behind packet after (omega arith)

  -- what stands behind the header, with what follows
  rest : drop 4 (packet ++ after) ≡ drop 4 packet ++ after
  rest = drop-append-le 4 packet after (omega arith)

  all_there : sent_length (length_in header) ≤ length (drop 4 packet)
  all_there = omega (arith, length-drop 4 packet)

  same-data : data_in header (packet ++ after) ≡ data_in header packet
  unfolding data_in
  same-data = ap (joined (length_in header)) rest ∙ joined-alike (length_in header) (drop 4 packet) after all_there

  wrong-behind : (k : ℕ) → FirstUnsummed header packet k → FirstUnsummed header (packet ++ after) k
  wrong-behind k f = subst (λ (l : List ℕ). FirstWrong (length_in header) l k) (sym rest) (wrong-alike (length_in header) (drop 4 packet) after all_there k f)

  wrong-before : (k : ℕ) → FirstUnsummed header (packet ++ after) k → FirstUnsummed header packet k
  wrong-before k f = wrong-alone (length_in header) (drop 4 packet) after all_there k (subst (λ (l : List ℕ). FirstWrong (length_in header) l k) rest f)

  near-behind : ValidWithin terms.mend (received (packet ++ after)) header
  near-behind = subst (λ (w : ℕ). ValidWithin terms.mend w header) (sym same_received) near

  longer : length packet ≤ length (packet ++ after)
  longer = omega (arith, length-append packet after)

  there : (r : ExamineRefusal) → Fault terms packet r → Fault terms (packet ++ after) r
  there = moves terms named packet (packet ++ after) header near near-behind whole same-data wrong-behind

  back : (r : ExamineRefusal) → Fault terms (packet ++ after) r → Fault terms packet r
  back = moves terms named (packet ++ after) packet header near-behind near (omega (arith, longer)) (sym same-data) wrong-before

  allowed-behind : (format : Format) (text : List ℕ) → Allowed terms packet format header text → Allowed terms (packet ++ after) format header text
  allowed-behind format text a =
      record {
        framed = record {
          bits = a.framed.bits;
          near = near-behind;
          typed = a.framed.typed;
          some = a.framed.some;
          few = a.framed.few;
          whole = omega (arith, longer);
        };
        summed = subst (RightSums (length_in header)) (sym rest) (sums-alike (length_in header) (drop 4 packet) after all_there a.summed);
        carries = subst (Carries format text) (sym same-data) a.carries;
      }

  accepts-behind : (reading : Reading) (text : List ℕ) → Accepts terms packet reading text → Accepts terms (packet ++ after) reading text
  accepts-behind reading text a =
      let same : a.header ≡ header = one-header terms named packet a.header header a.allowed.framed.near near in
      let behind = allowed-behind a.format text (subst (λ (h : ℕ). Allowed terms packet a.format h text) same a.allowed) in
      let codes =
      codes_same a.format text text (data_in a.header packet) (data_in header (packet ++ after))
      (ap (λ (h : ℕ). data_in h packet) same ∙ sym same-data) a.allowed.carries behind.carries in
      record {
        format = a.format;
        header = header;
        allowed = behind;
        is = a.is ∙ (λ i. reading_of a.format (same i) (sym same_received i) text (codes i));
      }

  refuses-behind : (r : ExamineRefusal) → Refuses terms packet r → Refuses terms (packet ++ after) r
  refuses-behind r p = record { fault = there r p.fault; first = λ other lt f. p.first other lt (back other f) }

  examined-behind : (answer : ExamineAnswer) → Examines terms packet answer → Examines terms (packet ++ after) answer
  examined-behind (Ok reading) (text, a) = (text, accepts-behind reading text a)
  examined-behind (Err r) p = refuses-behind r p

  read_behind : (entry exit : List ℕ) (answer : ReadAnswer) → Reads terms packet entry answer exit → Reads terms (packet ++ after) entry answer exit
  read_behind entry exit (Ok reading) (text, a, held, e) = (text, accepts-behind reading text a, held, e)
  read_behind entry exit (Err r) (p, e) = (
    record {
      fault = read-moves terms named packet (packet ++ after) header near near-behind whole same-data wrong-behind (length entry) r p.fault;
      first = λ other lt f.
          p.first other lt
          (read-moves terms named (packet ++ after) packet header near-behind near (omega (arith, longer)) (sym same-data) wrong-before (length entry) other f);
    },
    e,
  )

pub nothing-after : (terms : Terms) → OnePacket terms.most → NothingAfter terms
nothing-after terms bytes = pick (dec_le terms.mend 2)
  where
    pick : Dec (terms.mend ≤ 2) → NothingAfter terms
    pick (yes bits) =
        let named : MayBeNamed terms = record { bits = bits; bytes = bytes } in
        record {
          examined-alone = λ packet after header near whole a b p q.
              examines-one terms bytes (packet ++ after) a b (examined-behind terms named packet after header near whole a p) q;
          read-alone = λ packet after header near whole entry x y a b p q.
              reads-one terms bytes (packet ++ after) entry a b x y (read_behind terms named packet after header near whole entry x a p) q;
        }
    pick (no many) =
        record {
          examined-alone = λ packet after header near whole a b p q.
              examined-too-many terms packet many a p ∙ sym (examined-too-many terms (packet ++ after) many b q);
          read-alone = λ packet after header near whole entry x y a b p q.
              let alone = read-too-many terms packet entry many a x p in
              let behind = read-too-many terms (packet ++ after) entry many b y q in
              (alone.0 ∙ sym behind.0, alone.1 ∙ sym behind.1);
        }
