-- Demand 2 holds, under all terms that may be named.
-- Assumes nothing.
use mathlib.Core.Bool.{Bool}
use mathlib.Core.List.{List, [], ◌++◌}
use mathlib.Core.Logic.{◌↔◌}
use mathlib.Core.Path.{◌≡◌, refl, sym, ap, ap₂, ◌∙◌, subst, subst⁻¹}
use Prim.Native.Nat.{ℕ, ◌^◌, ◌≤◌, ◌<◌}
use native.Mathlib.Omega.{arith}
use lib.Bits.{bit_xor, xor_self}
use lib.ListN.{length, drop}
use Rattle.std.specs.Prelude.{Ok, Err}
use Rattle.bits.specs.Row.{Bytes}
use Rattle.bits.proofs.Ones.{differences-self}
use Rattle.header.specs.declared.Format.{Format}
use Rattle.header.specs.Fields.{fields_in, bytes_of}
use Rattle.header.specs.Formats.{format_number}
use Rattle.header.specs.Valid.{length_in}
use Rattle.header.proofs.Formats.{one_number}
use Rattle.distance.specs.Distance.{distance}
use Rattle.sections.specs.Sections.{sent_length}
use Rattle.formats.specs.Data.{Carries, codes_in, AllCoded, comes_back, data_of, codes_of}
use Rattle.formats.proofs.Codes.{ours-codes}
use Rattle.formats.proofs.Bits.{no-fewer}
use Rattle.formats.proofs.Formats.{carries-coded, carries_kept, carries-some, data-some, writer-carries}
use Rattle.refusals.specs.declared.WriteRefusal.TheVariants.{Empty}
use Rattle.terms.specs.declared.Terms.{Terms}
use Rattle.examine.specs.declared.Reading.{Reading}
use Rattle.examine.specs.Examine.{ExamineAnswer, Allowed, reading_of, Accepts, Examines}
use Rattle.packet.specs.Packet.{whole_length, received, data_in, packet_of, header_for}
use Rattle.reader.specs.Reader.{ReadAnswer, Reads}
use Rattle.terms.specs.Terms.{MayBeNamed}
use Rattle.writer.specs.Writer.{WriteAnswer, our_packet, Writes}
use Rattle.examine.proofs.ExamineOnce.{examines-one}
use Rattle.reader.proofs.ReadOnce.{reads-one}
use Rattle.packet.proofs.Sent.{header-valid}
use Rattle.writer.proofs.WriteOnce.{writes_one}
use Rattle.writer.proofs.WriteStages.{clear-ten}
use Rattle.demands.specs.Demand2.{Writable, packet_length, clean_reading, StandsInFront, Demand2}
use Rattle.demands.specs.Makers.{Made, Flipped, arriving, reading_with}
use Rattle.demands.proofs.Demand3.{packet-header, intact}
use Rattle.demands.proofs.Alike.{writes-alike}
use Rattle.demands.proofs.Parts.{header_is, received-lt, head-and-rest, data-size, behind-header}

pub our-is : (format : Format) (sync : Bool) (text : List ℕ)
    → our_packet format sync text ≡ packet_of (header_for format sync (length (data_of format text))) (data_of format text)
unfolding our_packet
our-is format sync text = refl

no_bits : (word : ℕ) → distance word word ≡ 0
unfolding distance
no_bits word = differences-self 32 word

in-front : (format : Format) (sync : Bool) (text after : List ℕ)
    → our_packet format sync text ++ after ≡ arriving (header_for format sync (length (data_of format text))) (our_packet format sync text) after
unfolding arriving our_packet packet_of bytes_of
in-front format sync text after = refl

abbrev pub written-is-made : (terms : Terms) (format : Format) (sync : Bool) (text : List ℕ) → Writable terms format text
    → Made terms format sync text (our_packet format sync text)
written-is-made terms format sync text w =
    record {
      carried = data_of format text;
      coded = w.coded;
      carries = writer-carries format text w.coded;
      some = data-some format text w.some w.coded;
      few = w.few;
      is = our-is format sync text;
    }

module _ (terms : Terms) (named : MayBeNamed terms) where
  -- ---- text that has codes and fits is written, and reads back

  written : (format : Format) (sync : Bool) (text entry exit : List ℕ) (answer : WriteAnswer) → Writable terms format text
      → packet_length format text ≤ length entry → Writes terms (format_number format) sync text entry answer exit
      → (answer ≡ Ok (packet_length format text)) × (exit ≡ our_packet format sync text ++ drop (packet_length format text) entry)
  written format sync text entry exit answer w room writes =
      writes_one terms (format_number format) sync text entry answer (Ok (packet_length format text)) exit
      (our_packet format sync text ++ drop (packet_length format text) entry) writes
      (format, record { named = refl; some = w.some; coded = w.coded; few = w.few; fits = refl; held = room }, refl)

  reads-back : (format : Format) (sync : Bool) (text after entry exit : List ℕ) (answer : ReadAnswer) → Writable terms format text
      → length (comes_back format text) ≤ length entry → Reads terms (our_packet format sync text ++ after) entry answer exit
      → (answer ≡ Ok (clean_reading format sync text)) × StandsInFront (comes_back format text) entry exit
  reads-back format sync text after entry exit answer w held reads =
      let made = written-is-made terms format sync text w in
      let packet = our_packet format sync text in
      let header = header_for format sync (length (data_of format text)) in
      let small : length (data_of format text) < 2 ^ 14 = omega (arith, w.few, named.bytes) in
      let sent : received packet ≡ header = packet-header terms named format sync text packet made in
      let clean : distance header (received packet) ≡ 0 = ap (distance header) sent ∙ no_bits header in
      let same : bit_xor header (received packet) ≡ 0 = ap (bit_xor header) sent ∙ xor_self header in
      let codes = codes_in format (comes_back format text) (data_of format text) made.carries in
      let ours : codes ≡ codes_of format text = ours-codes format text (comes_back format text) w.coded made.carries in
      let once =
      intact terms named format sync text packet made header
      (record { bits = (header-valid format sync (length (data_of format text)) small).bits; few = omega (arith, clean) }) after entry exit answer held
      (subst (λ (p : List ℕ). Reads terms p entry answer exit) (in-front format sync text after) reads) in (
        once.0
            ∙ ap₂ (λ (mended mask : ℕ). Ok (reading_with format sync mended mask codes (length (data_of format text)) (length (comes_back format text)))) clean same
            ∙ ap (λ (k : ℕ). Ok (reading_with format sync 0 0 k (length (data_of format text)) (length (comes_back format text)))) ours,
        once.1,
      )

  written-reads-back : (format : Format) (sync : Bool) (text lent packet : List ℕ) (n : ℕ)
      → Writes terms (format_number format) sync text lent (Ok n) packet
      → (entry exit : List ℕ) (answer : ReadAnswer) → length (comes_back format text) ≤ length entry → Reads terms packet entry answer exit
      → (answer ≡ Ok (clean_reading format sync text)) × ((clean_reading format sync text).used ≡ n) × StandsInFront (comes_back format text) entry exit
  written-reads-back format sync text lent packet n (other, w, e) entry exit answer held reads =
      let same : other ≡ format = one_number other format w.named in
      let is : packet ≡ our_packet format sync text ++ drop n lent = e ∙ ap (λ (k : Format). our_packet k sync text ++ drop n lent) same in
      let writable : Writable terms format text =
      subst (λ (k : Format). Writable terms k text) same (record { some = w.some; coded = w.coded; few = w.few }) in
      let back =
      reads-back format sync text (drop n lent) entry exit answer writable held (subst (λ (p : List ℕ). Reads terms p entry answer exit) is reads) in
      (back.0, sym (w.fits ∙ ap (λ (k : Format). whole_length (length (data_of k text))) same), back.1)

  -- ---- a packet is accepted exactly when it is allowed and the buffer holds its text

  -- the reading of a packet that is allowed
  abbrev reading_in : (packet : List ℕ) (format : Format) (header : ℕ) (text : List ℕ) → Allowed terms packet format header text → Reading
  reading_in packet format header text a = reading_of format header (received packet) text (codes_in format text (data_in header packet) a.carries)

  accepts-of : (packet : List ℕ) (format : Format) (header : ℕ) (text : List ℕ) (a : Allowed terms packet format header text)
      → Accepts terms packet (reading_in packet format header text a) text
  accepts-of packet format header text a = record { format = format; header = header; allowed = a; is = refl }

  allowed-readable : (packet : List ℕ) (answer : ExamineAnswer) → Examines terms packet answer → (format : Format) (header : ℕ) (text : List ℕ)
      → (a : Allowed terms packet format header text) → answer ≡ Ok (reading_in packet format header text a)
  allowed-readable packet answer examines format header text a =
      examines-one terms named.bytes packet answer (Ok (reading_in packet format header text a)) examines (text, accepts-of packet format header text a)

  allowed-accepted : (packet entry exit : List ℕ) (answer : ReadAnswer) → Reads terms packet entry answer exit
      → (format : Format) (header : ℕ) (text : List ℕ) (a : Allowed terms packet format header text) → length text ≤ length entry
      → (answer ≡ Ok (reading_in packet format header text a)) × StandsInFront text entry exit
  allowed-accepted packet entry exit answer reads format header text a held =
      reads-one terms named.bytes packet entry answer (Ok (reading_in packet format header text a)) exit (text ++ drop (length text) entry) reads
      (text, accepts-of packet format header text a, held, refl)

  accepted-exactly : (packet entry exit : List ℕ) (answer : ReadAnswer) → Reads terms packet entry answer exit
      → ((reading : Reading) × (answer ≡ Ok reading))
      ↔ ((format : Format) × (header : ℕ) × (text : List ℕ) × Allowed terms packet format header text × (length text ≤ length entry))
  accepted-exactly packet entry exit answer reads = (
    λ a.
        let told = subst (λ (b : ReadAnswer). Reads terms packet entry b exit) a.1 reads in
        (told.1.format, told.1.header, told.0, told.1.allowed, told.2),
    λ a. (
      reading_in packet a.0 a.1 a.2 a.3,
      (allowed-accepted packet entry exit answer reads a.0 a.1 a.2 a.3 a.4).0,
    ),
  )

  readable-exactly : (packet : List ℕ) (answer : ExamineAnswer) → Examines terms packet answer
      → ((reading : Reading) × (answer ≡ Ok reading)) ↔ ((format : Format) × (header : ℕ) × (text : List ℕ) × Allowed terms packet format header text)
  readable-exactly packet answer examines = (
    λ a. let told = subst (Examines terms packet) a.1 examines in (told.1.format, told.1.header, told.0, told.1.allowed),
    λ a. (reading_in packet a.0 a.1 a.2 a.3, allowed-readable packet answer examines a.0 a.1 a.2 a.3),
  )

  -- ---- and is then a packet that a maker could have built

  module _ (packet : List ℕ) (format : Format) (header : ℕ) (text : List ℕ) (bytes : Bytes packet) (a : Allowed terms packet format header text) where
    abbrev carried : List ℕ
    carried = data_in header packet

    size : length carried ≡ length_in header
    size = data-size packet header a.framed.whole

    abbrev sync : Bool
    sync = (fields_in header).sync

    abbrev whole : List ℕ
    whole = packet_of (header_for format sync (length carried)) carried

    abbrev made_of : Made terms format sync text whole
    made_of =
        record {
          carried = carried;
          coded = carries-coded format text carried a.carries;
          carries = subst (λ (t : List ℕ). Carries format t carried) (sym (carries_kept format text carried a.carries)) a.carries;
          some = omega (arith, size, a.framed.some);
          few = omega (arith, size, a.framed.few);
          is = refl;
        }

    same-header : received whole ≡ header
    same-header =
        packet-header terms named format sync text whole made_of
        ∙ ap (header_for format sync) size
        ∙ header_is header format sync a.framed.near.valid a.framed.typed refl

    four : 4 ≤ length packet
    four = omega (arith, a.framed.whole)

    flipped : Flipped terms whole (received packet)
    flipped =
        record {
          bits = received-lt packet four bytes;
          few = subst (λ (w : ℕ). distance (received packet) w ≤ terms.mend) (sym same-header) a.framed.near.near;
        }

    abbrev behind : List ℕ
    behind = drop (sent_length (length_in header)) (drop 4 packet)

    arrived-so : packet ≡ arriving (received packet) whole behind
    unfolding arriving packet_of bytes_of
    arrived-so =
        head-and-rest packet four bytes
        ∙ ap (λ (l : List ℕ). bytes_of (received packet) ++ l)
        (behind-header packet header a.framed.whole a.summed)

  -- of an accepted packet, said of its reading
  accepted-is-made : (packet : List ℕ) (reading : Reading) (text : List ℕ) → Bytes packet → Accepts terms packet reading text
      → (made after : List ℕ) × Made terms reading.format reading.sync text made × Flipped terms made (received packet)
      × (packet ≡ arriving (received packet) made after) × (reading.mended ≡ distance (received packet) (received made))
      × (reading.mask ≡ bit_xor (received packet) (received made))
  accepted-is-made packet reading text bytes a =
      let header = a.header in
      subst⁻¹
      (λ (r : Reading).
      (made after : List ℕ) × Made terms r.format r.sync text made × Flipped terms made (received packet)
      × (packet ≡ arriving (received packet) made after) × (r.mended ≡ distance (received packet) (received made))
      × (r.mask ≡ bit_xor (received packet) (received made)))
      a.is (
        whole packet a.format header text bytes a.allowed,
        behind packet a.format header text bytes a.allowed,
        made_of packet a.format header text bytes a.allowed,
        flipped packet a.format header text bytes a.allowed,
        arrived-so packet a.format header text bytes a.allowed,
        ap (distance (received packet)) (sym (same-header packet a.format header text bytes a.allowed)),
        ap (bit_xor (received packet)) (sym (same-header packet a.format header text bytes a.allowed)),
      )

  -- ---- writing that text again

  module _ (packet : List ℕ) (format : Format) (header : ℕ) (text : List ℕ) (a : Allowed terms packet format header text) where
    text-coded : AllCoded format text
    text-coded = carries-coded format text (data_in header packet) a.carries

    kept : comes_back format text ≡ text
    kept = carries_kept format text (data_in header packet) a.carries

    less : length (data_of format text) ≤ length_in header
    less =
        omega (
          arith,
          data-size packet header a.framed.whole,
          no-fewer format text (data_in header packet) text-coded (subst⁻¹ (λ (t : List ℕ). Carries format t (data_in header packet)) kept a.carries),
        )

    writable : Writable terms format text
    writable =
        record {
          some = carries-some format text (data_in header packet) (omega (arith, data-size packet header a.framed.whole, a.framed.some)) a.carries;
          coded = text-coded;
          few = omega (arith, less, a.framed.few);
        }

  module _ (packet : List ℕ) (reading : Reading) (text : List ℕ) (a : Accepts terms packet reading text) where
    same_format : a.format ≡ reading.format
    same_format = ap (λ (r : Reading). r.format) (sym a.is)

    again-writable : Writable terms reading.format text
    again-writable = subst (λ (k : Format). Writable terms k text) same_format (writable packet a.format a.header text a.allowed)

    again_kept : comes_back reading.format text ≡ text
    again_kept = subst (λ (k : Format). comes_back k text ≡ text) same_format (kept packet a.format a.header text a.allowed)

    written-again : (sync : Bool) (lent exit : List ℕ) (answer : WriteAnswer) → packet_length reading.format text ≤ length lent
        → Writes terms (format_number reading.format) sync text lent answer exit
        → (answer ≡ Ok (packet_length reading.format text))
        × (exit ≡ our_packet reading.format sync text ++ drop (packet_length reading.format text) lent)
        × (packet_length reading.format text ≤ reading.used)
    written-again sync lent exit answer held writes =
        let done = written reading.format sync text lent exit answer again-writable held writes in
        let short : length (data_of reading.format text) ≤ length_in a.header =
        subst (λ (k : Format). length (data_of k text) ≤ length_in a.header) same_format (less packet a.format a.header text a.allowed) in
        (done.0, done.1, omega (arith, short, ap (λ (r : Reading). r.used) a.is))

    reads-the-same : (sync : Bool) (lent again : List ℕ) (wrote : WriteAnswer) → packet_length reading.format text ≤ length lent
        → Writes terms (format_number reading.format) sync text lent wrote again
        → (entry exit : List ℕ) (answer : ReadAnswer) → length text ≤ length entry → Reads terms again entry answer exit
        → (answer
        ≡ Ok (reading_with reading.format sync 0 0 (codes_of reading.format text) (length (data_of reading.format text)) (length text)))
        × StandsInFront text entry exit
    reads-the-same sync lent again wrote given writes entry exit answer held reads =
        let is = (written-again sync lent again wrote given writes).0 in
        let back =
        written-reads-back reading.format sync text lent again (packet_length reading.format text)
        (subst (λ (w : WriteAnswer). Writes terms (format_number reading.format) sync text lent w again) is writes) entry exit answer
        (subst⁻¹ (λ (t : List ℕ). length t ≤ length entry) again_kept held) reads in
        subst
        (λ (t : List ℕ).
        (answer
        ≡ Ok (reading_with reading.format sync 0 0 (codes_of reading.format text) (length (data_of reading.format text)) (length t)))
        × StandsInFront t entry exit)
        again_kept (back.0, back.2)

  pub demand-2 : Demand2 terms
  demand-2 = record {
    written-whatever-named = λ other e. writes-alike other terms e;
    written = written;
    written-is-made = written-is-made terms;
    reads-back = reads-back;
    written-reads-back = written-reads-back;
    empty-refused = λ format sync entry exit answer writes.
        writes_one terms (format_number format) sync [] entry answer (Err Empty) exit entry writes
        (record { fault = refl; first = clear-ten terms (format_number format) [] (length entry) format refl }, refl);
    empty-never-written = λ number sync entry exit n writes. omega (arith, writes.1.some);
    accepted-exactly = accepted-exactly;
    readable-exactly = readable-exactly;
    allowed-readable = allowed-readable;
    allowed-accepted = allowed-accepted;
    accepted-is-made = accepted-is-made;
    written-again = written-again;
    reads-the-same = reads-the-same;
  }
