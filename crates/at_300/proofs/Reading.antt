-- What is said of a packet that came, under terms of no more than 4,000 data bytes: as it was said of one section.
-- Assumes nothing.
use mathlib.Core.List.{List}
use mathlib.Core.Logic.Iff
use mathlib.Core.Logic.{inl, inr, ◌↔◌}
use mathlib.Core.Path.{◌≡◌, sym, ◌∙◌, subst, subst⁻¹}
use Prim.Native.Nat.{ℕ, ◌+◌, ◌≤◌, ◌<◌}
use native.Mathlib.Decide.{dec_le, dec_lt}
use native.Mathlib.Omega.{arith}
use lib.Bits.{bit_xor}
use lib.ListN.{length}
use Rattle.std.specs.Prelude.{Ok, Err}
use Rattle.header.specs.declared.Format.{Format}
use Rattle.header.specs.Fields.{fields_in}
use Rattle.header.specs.Valid.{length_in}
use Rattle.distance.specs.Distance.{ValidWithin, distance}
use Rattle.formats.specs.Data.{Carries, codes_in, UnreadableAfter}
use Rattle.formats.proofs.Codes.{codes_same}
use Rattle.packet.specs.Packet.{whole_length, received, data_in}
use Rattle.refusals.specs.declared.ExamineRefusal.{ExamineRefusal}
use Rattle.refusals.specs.declared.ExamineRefusal.TheVariants.{TooManyBits, Short, NoHeader, OtherType, OtherLength, CutOff, Checksum, Malformed}
use Rattle.refusals.specs.declared.ReadRefusal.{ReadRefusal}
use Rattle.refusals.specs.declared.ReadRefusal.TheVariants.{Packet, NoRoom}
use Rattle.refusals.specs.Match.{turn_in, reader_turn}
use Rattle.refusals.specs.Refusals.{examine_told, read_told}
use Rattle.refusals.proofs.Known.{before-room}
use Rattle.terms.specs.declared.Terms.{Terms}
use Rattle.examine.specs.declared.Reading.{Reading}
use Rattle.examine.specs.Examine.{ExamineAnswer, Fault, Refuses, Allowed, reading_of, Accepts, Examines}
use Rattle.reader.specs.Reader.{ReadAnswer, ReadFault, ReadRefuses, Reads}
use Rattle.at_300.specs.OneSection.Examine as one
use Rattle.at_300.specs.OneSection.Packet.{data_in as one_data_in}
use Rattle.at_300.specs.OneSection.Reader as one_reader
use Rattle.at_300.proofs.FirstMatches.{NoneBelow, turn_of, first_matches}
use Rattle.at_300.proofs.Parts.{whole_same, data-same, summed_same, wrong-same}

module _ (terms : Terms) (small : terms.most ≤ 4000) (packet : List ℕ) where
  -- ---- refused

  -- a header of ours, where the condition of 4 does not hold
  bounds : (header : ℕ) → ValidWithin terms.mend (received packet) header → (Fault terms packet OtherLength → ⊥)
      → (1 ≤ length_in header) × (length_in header ≤ 4000)
  bounds header near ours = pick (dec_lt 0 (length_in header)) (dec_le (length_in header) terms.most)
    where
      pick : Dec (0 < length_in header) → Dec (length_in header ≤ terms.most) → (1 ≤ length_in header) × (length_in header ≤ 4000)
      pick (yes some) (yes few) = (some, omega arith)
      pick (no none) few = absurd (ours (header, near, inl (omega arith)))
      pick (yes some) (no many) = absurd (ours (header, near, inr (omega arith)))

  -- bytes enough, where that of 5 does not
  enough : (header : ℕ) → ValidWithin terms.mend (received packet) header → (Fault terms packet CutOff → ⊥) → whole_length (length_in header) ≤ length packet
  enough header near all = pick (dec_le (whole_length (length_in header)) (length packet))
    where
      pick : Dec (whole_length (length_in header) ≤ length packet) → whole_length (length_in header) ≤ length packet
      pick (yes whole) = whole
      pick (no short) = absurd (all (header, near, omega arith))

  cut-off-same : (Fault terms packet OtherLength → ⊥) → Fault terms packet CutOff ↔ one.Fault terms packet CutOff
  cut-off-same ours = (
    λ (header, near, short). let b = bounds header near ours in (header, near, omega (arith, whole_same (length_in header) b.0 b.1)),
    λ (header, near, short). let b = bounds header near ours in (header, near, omega (arith, whole_same (length_in header) b.0 b.1)),
  )

  checksum-same : (Fault terms packet OtherLength → ⊥) → (Fault terms packet CutOff → ⊥) → (k : ℕ)
      → Fault terms packet (Checksum k) ↔ one.Fault terms packet (Checksum k)
  checksum-same ours all k = (
    λ (header, near, wrong).
        let b = bounds header near ours in
        let differs =
        (wrong-same header packet b.0 b.1 (omega (arith, enough header near all, whole_same (length_in header) b.0 b.1)) k).0 wrong in
        (omega (arith, differs.0), (header, near, differs.1)),
    λ (first, (header, near, differs)).
        let b = bounds header near ours in (
          header,
          near,
          (wrong-same header packet b.0 b.1 (omega (arith, enough header near all, whole_same (length_in header) b.0 b.1)) k).1
              (omega (arith, first), differs),
        ),
  )

  malformed-same : (Fault terms packet OtherLength → ⊥) → (i codes : ℕ) → Fault terms packet (Malformed i codes) ↔ one.Fault terms packet (Malformed i codes)
  malformed-same ours i codes = (
    λ (header, near, (format, typed, stuck)).
        let b = bounds header near ours in
        (header, near, (format, typed, subst (λ (l : List ℕ). UnreadableAfter format l i codes) (data-same header packet b.0 b.1) stuck)),
    λ (header, near, (format, typed, stuck)).
        let b = bounds header near ours in
        (header, near, (format, typed, subst⁻¹ (λ (l : List ℕ). UnreadableAfter format l i codes) (data-same header packet b.0 b.1) stuck)),
  )

  -- each condition is as it was, where none of an earlier turn holds
  conditions-same : (r : ExamineRefusal) → NoneBelow ExamineRefusal examine_told reader_turn (Fault terms packet) (turn_of ExamineRefusal examine_told reader_turn r)
      → Fault terms packet r ↔ one.Fault terms packet r
  unfolding turn_in
  conditions-same TooManyBits none = Iff.rfl
  conditions-same Short none = Iff.rfl
  conditions-same NoHeader none = Iff.rfl
  conditions-same OtherType none = Iff.rfl
  conditions-same OtherLength none = Iff.rfl
  conditions-same CutOff none = cut-off-same (none OtherLength (omega arith))
  conditions-same (Checksum k) none = checksum-same (none OtherLength (omega arith)) (none CutOff (omega arith)) k
  conditions-same (Malformed i codes) none = malformed-same (none OtherLength (omega arith)) i codes

  pub refuses-same : (r : ExamineRefusal) → Refuses terms packet r ↔ one.Refuses terms packet r
  refuses-same = first_matches ExamineRefusal examine_told reader_turn (Fault terms packet) (one.Fault terms packet) conditions-same

  room-same : (Fault terms packet OtherLength → ⊥) → (room needed : ℕ)
      → ReadFault terms packet room (NoRoom needed) ↔ one_reader.ReadFault terms packet room (NoRoom needed)
  room-same ours room needed = (
    λ (header, near, (format, typed, (text, carries, long, short))).
        let b = bounds header near ours in
        (header, near, (format, typed, (text, subst (Carries format text) (data-same header packet b.0 b.1) carries, long, short))),
    λ (header, near, (format, typed, (text, carries, long, short))).
        let b = bounds header near ours in
        (header, near, (format, typed, (text, subst⁻¹ (Carries format text) (data-same header packet b.0 b.1) carries, long, short))),
  )

  read-conditions-same : (room : ℕ) (r : ReadRefusal)
      → NoneBelow ReadRefusal read_told reader_turn (ReadFault terms packet room) (turn_of ReadRefusal read_told reader_turn r)
      → ReadFault terms packet room r ↔ one_reader.ReadFault terms packet room r
  read-conditions-same room (Packet r) none = conditions-same r (λ other. none (Packet other))
  read-conditions-same room (NoRoom needed) none = room-same (none (Packet OtherLength) (before-room OtherLength)) room needed

  pub read-refuses-same : (room : ℕ) (r : ReadRefusal) → ReadRefuses terms packet room r ↔ one_reader.ReadRefuses terms packet room r
  read-refuses-same room =
      first_matches ReadRefusal read_told reader_turn (ReadFault terms packet room) (one_reader.ReadFault terms packet room) (read-conditions-same room)

  -- ---- accepted

  module _ (format : Format) (header : ℕ) (text : List ℕ) where
    allowed-now : one.Allowed terms packet format header text → Allowed terms packet format header text
    allowed-now a =
        let f = a.framed in
        let few : length_in header ≤ 4000 = omega (arith, f.few) in
        record {
          framed =
              record {
                bits = f.bits;
                near = f.near;
                typed = f.typed;
                some = f.some;
                few = f.few;
                whole = omega (arith, f.whole, whole_same (length_in header) f.some few);
              };
          summed = (summed_same header packet f.some few f.whole).1 a.summed;
          carries = subst⁻¹ (Carries format text) (data-same header packet f.some few) a.carries;
        }

    allowed-before : Allowed terms packet format header text → one.Allowed terms packet format header text
    allowed-before a =
        let f = a.framed in
        let few : length_in header ≤ 4000 = omega (arith, f.few) in
        let whole : length_in header + 6 ≤ length packet = omega (arith, f.whole, whole_same (length_in header) f.some few) in
        record {
          framed = record { bits = f.bits; near = f.near; typed = f.typed; some = f.some; few = f.few; whole = whole };
          summed = (summed_same header packet f.some few whole).0 a.summed;
          carries = subst (Carries format text) (data-same header packet f.some few) a.carries;
        }

    pub allowed_same : Allowed terms packet format header text ↔ one.Allowed terms packet format header text
    allowed_same = (allowed-before, allowed-now)

    -- the reading, whatever the proofs that it is allowed
    reading-same : (a : Allowed terms packet format header text) (b : one.Allowed terms packet format header text)
        → reading_of format header (received packet) text (codes_in format text (data_in header packet) a.carries)
        ≡ one.reading_of format header (received packet) text (codes_in format text (one_data_in header packet) b.carries)
    reading-same a b =
        let few : length_in header ≤ 4000 = omega (arith, a.framed.few) in
        let codes =
        codes_same format text text (data_in header packet) (one_data_in header packet) (data-same header packet a.framed.some few) a.carries
        b.carries in
        let whole = whole_same (length_in header) a.framed.some few in
        λ i.
        record {
          format = format;
          sync = (fields_in header).sync;
          mended = distance (received packet) header;
          mask = bit_xor (received packet) header;
          codes = codes i;
          data_length = length_in header;
          text_length = length text;
          used = whole i;
        }

  pub accepts-same : (reading : Reading) (text : List ℕ) → Accepts terms packet reading text ↔ one.Accepts terms packet reading text
  accepts-same reading text = (
    λ a.
        let b = allowed-before a.format a.header text a.allowed in
        record { format = a.format; header = a.header; allowed = b; is = a.is ∙ reading-same a.format a.header text a.allowed b },
    λ b.
        let a = allowed-now b.format b.header text b.allowed in
        record { format = b.format; header = b.header; allowed = a; is = b.is ∙ sym (reading-same b.format b.header text a b.allowed) },
  )

  -- ---- both

  pub examines-same : (answer : ExamineAnswer) → Examines terms packet answer ↔ one.Examines terms packet answer
  examines-same (Ok reading) = (λ (text, a). (text, (accepts-same reading text).0 a), λ (text, a). (text, (accepts-same reading text).1 a))
  examines-same (Err refusal) = refuses-same refusal

  pub reads_same : (entry : List ℕ) (answer : ReadAnswer) (exit : List ℕ)
      → Reads terms packet entry answer exit ↔ one_reader.Reads terms packet entry answer exit
  reads_same entry (Ok reading) exit = (
    λ (text, a, held, there). (text, (accepts-same reading text).0 a, held, there),
    λ (text, a, held, there). (text, (accepts-same reading text).1 a, held, there),
  )
  reads_same entry (Err refusal) exit =
      (λ (p, same). ((read-refuses-same (length entry) refusal).0 p, same), λ (p, same). ((read-refuses-same (length entry) refusal).1 p, same))
