-- No shorter packet: our writer's has the fewest bytes, under all terms; what refusals 11 and 8 say of it; and how much more another maker may take.
-- Assumes nothing.
use mathlib.Core.Bool.{Bool, true}
use mathlib.Core.List.{List, [], ◌∷◌}
use mathlib.Core.Logic.{◌↔◌}
use mathlib.Core.Path.{◌≡◌, refl, sym, ap, ◌∙◌, subst}
use Prim.Native.Nat.{ℕ, ◌+◌, ◌*◌, ◌/◌, ◌≤◌, ◌<◌}
use native.Mathlib.Decide.{dec_le}
use native.Mathlib.Omega.{arith}
use lib.ListN.{length, replicate, length-replicate}
use Rattle.std.specs.Prelude.{Ok, Err}
use Rattle.header.specs.declared.Format.{Format}
use Rattle.header.specs.declared.Format.TheVariants.{PseudoBinary}
use Rattle.header.specs.Formats.{format_number}
use Rattle.header.proofs.Formats.{one_number}
use Rattle.codes.proofs.CodedTexts.{coded-below}
use Rattle.codes.specs.Pack.{written}
use Rattle.pseudo_binary.specs.Makers.{singly}
use Rattle.pseudo_binary.specs.Table.{SLASH, Kind, values, slashes, is_of}
use Rattle.pseudo_binary.specs.Writer.{our_most, Alike}
use Rattle.pseudo_binary.proofs.Characters.{alike-replicate}
use Rattle.pseudo_binary.proofs.Length.{width, each}
use Rattle.pseudo_binary.proofs.Size.{started}
use Rattle.pseudo_binary.proofs.Waste.{alike-coded}
use Rattle.formats.specs.Data.{Carries, coded, AllCoded, data_of, comes_back}
use Rattle.formats.proofs.Bits.{bits-one, bits-bytes, bits-least, bits-apart, bytes_apart, no-fewer, single-run, our-run, apart-reached}
use Rattle.formats.proofs.Formats.{back-coded, writer-carries}
use Rattle.refusals.specs.declared.WriteRefusal.{WriteRefusal}
use Rattle.refusals.specs.declared.WriteRefusal.TheVariants.{Empty, NoCode, TooLong, NoRoom}
use Rattle.refusals.specs.Match.{turn_in, writer_turn}
use Rattle.refusals.specs.Refusals.{number_in, write_told}
use Rattle.terms.specs.declared.Terms.{Terms}
use Rattle.examine.specs.declared.Reading.{Reading}
use Rattle.examine.specs.Examine.{Accepts}
use Rattle.packet.specs.Packet.{whole_length, data_in, header_for}
use Rattle.writer.specs.Writer.{WriteAnswer, our_packet, WriteRefuses, Writes}
use Rattle.writer.proofs.WriteOnce.{writes_one}
use Rattle.writer.proofs.WriteStages.{in-format, clear-eleven}
use Rattle.demands.specs.Demand2.{Writable}
use Rattle.demands.specs.Makers.{Made}
use Rattle.demands.specs.NoShorter.{Fewest, FitsInNone, NoShorter, Singly, Waste}
use Rattle.demands.proofs.Demand1.{our-length}
use Rattle.demands.proofs.Demand2.{written-is-made}
use Rattle.demands.proofs.Parts.{data-size, packet-length}

-- a packet of no fewer data bytes has no fewer bytes
no-shorter-packet : (other : Terms) (format : Format) (sync theirs : Bool) (text packet : List ℕ) → Made other format theirs text packet
    → length (our_packet format sync text) ≤ length packet
no-shorter-packet other format sync theirs text packet made =
    let carried = made.carried in
    omega (
      arith,
      our-length format sync text,
      ap length made.is ∙ packet-length (header_for format theirs (length carried)) carried,
      no-fewer format text carried made.coded made.carries,
    )

none-read-shorter : (other : Terms) (format : Format) (sync : Bool) (text packet : List ℕ) (reading : Reading)
    → Accepts other packet reading (comes_back format text) → reading.format ≡ format → length (our_packet format sync text) ≤ reading.used
none-read-shorter other format sync text packet reading a same =
    let carried = data_in a.header packet in
    let is : a.format ≡ format = sym (ap (λ (r : Reading). r.format) a.is) ∙ same in
    let carries : Carries format (comes_back format text) carried = subst (λ (k : Format). Carries k (comes_back format text) carried) is a.allowed.carries in
    omega (
      arith,
      our-length format sync text,
      ap (λ (r : Reading). r.used) a.is,
      data-size packet a.header a.allowed.framed.whole,
      no-fewer format text carried (back-coded format text carried carries) carries,
    )

-- of a text that has codes and fits
fewest : (terms : Terms) (format : Format) (text : List ℕ) (n : ℕ) → Writable terms format text → n ≡ whole_length (length (data_of format text))
    → Fewest terms format text n
fewest terms format text n w is = record {
  enough = λ sync. (our_packet format sync text, written-is-made terms format sync text w, our-length format sync text ∙ sym is);
  needed = λ other sync packet made. omega (arith, is, our-length format sync text, no-shorter-packet other format sync sync text packet made);
}

written-is-fewest : (terms : Terms) (format : Format) (sync : Bool) (text entry exit : List ℕ) (n : ℕ)
    → Writes terms (format_number format) sync text entry (Ok n) exit → Fewest terms format text n
written-is-fewest terms format sync text entry exit n (other, w, e) =
    subst (λ (k : Format). Fewest terms k text n) (one_number other format w.named) (fewest terms other text n (record { some = w.some; coded = w.coded; few = w.few }) w.fits)

-- what a refusal says of the text, by the tests that were made before
module _ (terms : Terms) (format : Format) (text : List ℕ) (room : ℕ) (r : WriteRefusal) (refuses : WriteRefuses terms (format_number format) text room r) where
  after-ten : 1 < writer_turn (number_in (write_told r)) → 0 < length text
  unfolding turn_in
  after-ten late = pick text refl
    where
      pick : (t : List ℕ) → text ≡ t → 0 < length t
      pick [] e = absurd (refuses.first Empty (omega arith) e)
      pick (c ∷ t) e = omega arith

  after-nine : 2 < writer_turn (number_in (write_told r)) → AllCoded format text
  unfolding turn_in
  after-nine late = coded-below (coded format) text (λ index none. refuses.first (NoCode index) (omega arith) (format, refl, none)) (length text) (omega arith)

  after-eleven : 3 < writer_turn (number_in (write_told r)) → length (data_of format text) ≤ terms.most
  unfolding turn_in
  after-eleven late = pick (dec_le (length (data_of format text)) terms.most)
    where
      pick : Dec (length (data_of format text) ≤ terms.most) → length (data_of format text) ≤ terms.most
      pick (yes few) = few
      pick (no many) = absurd (refuses.first TooLong (omega arith) (format, refl, omega arith))

room-is-fewest : (terms : Terms) (format : Format) (sync : Bool) (text entry exit : List ℕ) (n : ℕ)
    → Writes terms (format_number format) sync text entry (Err (NoRoom n)) exit → Fewest terms format text n
unfolding turn_in
room-is-fewest terms format sync text entry exit n (refuses, e) =
    let room = length entry in
    let short = in-format (format_number format) (λ (k : Format). (n ≡ whole_length (length (data_of k text))) × (room < n)) format refl refuses.fault in
    fewest terms format text n (record {
      some = after-ten terms format text room (NoRoom n) refuses (omega arith);
      coded = after-nine terms format text room (NoRoom n) refuses (omega arith);
      few = after-eleven terms format text room (NoRoom n) refuses (omega arith);
    }) short.0

too-long-fits-in-none : (terms : Terms) (format : Format) (sync : Bool) (text entry exit : List ℕ) (answer : WriteAnswer)
    → Writes terms (format_number format) sync text entry answer exit
    → (answer ≡ Err TooLong) ↔ ((0 < length text) × AllCoded format text × FitsInNone terms format text)
unfolding turn_in
too-long-fits-in-none terms format sync text entry exit answer writes = (none, given)
  where
    room : ℕ
    room = length entry

    none : answer ≡ Err TooLong → (0 < length text) × AllCoded format text × FitsInNone terms format text
    none e =
        let refuses = (subst (λ (a : WriteAnswer). Writes terms (format_number format) sync text entry a exit) e writes).0 in
        let long = in-format (format_number format) (λ (k : Format). terms.most < length (data_of k text)) format refl refuses.fault in (
          after-ten terms format text room TooLong refuses (omega arith),
          after-nine terms format text room TooLong refuses (omega arith),
          λ theirs packet made. let no : ⊥ = omega (arith, no-fewer format text made.carried made.coded made.carries, made.few) in no,
        )

    given : (0 < length text) × AllCoded format text × FitsInNone terms format text → answer ≡ Err TooLong
    given (some, all, fits-in-none) = pick (dec_le (length (data_of format text)) terms.most)
      where
        pick : Dec (length (data_of format text) ≤ terms.most) → answer ≡ Err TooLong
        pick (yes few) = absurd (fits-in-none sync (our_packet format sync text) (written-is-made terms format sync text (record { some = some; coded = all; few = few })))
        pick (no many) =
            (writes_one terms (format_number format) sync text entry answer (Err TooLong) exit entry writes
            (record { fault = (format, refl, omega arith); first = clear-eleven terms (format_number format) text room format refl some all }, refl)).0

pub no-shorter : (terms : Terms) → NoShorter terms
no-shorter terms = record {
  no-fewer-bits = bits-least;
  one_number = bits-one;
  bytes-told = bits-bytes;
  no-shorter-packet = no-shorter-packet;
  none-read-shorter = none-read-shorter;
  written-is-fewest = written-is-fewest terms;
  room-is-fewest = room-is-fewest terms;
  too-long-fits-in-none = too-long-fits-in-none terms;
}

-- ---- waste

single-ones : (k : Kind) (text : List ℕ) → Alike k text → {single ours : ℕ} → width k * length text + each k * length text ≡ single
    → width k * started k (length text) + each k * length text ≡ ours → Singly text single ours
single-ones k text alike x y =
    let s = single-run k text alike in
    let made = writer-carries PseudoBinary text (alike-coded k text alike) in
    record { carries = s.0; has = s.1 ∙ x; ours-carries = made; ours-has = our-run k text alike made ∙ y }

-- n characters alike, in bytes
pub alike-bytes : (k : Kind) (c n : ℕ) → is_of k c ≡ true
    → Carries PseudoBinary (comes_back PseudoBinary (replicate n c)) (written (singly (replicate n c)))
    × (length (written (singly (replicate n c))) ≡ (width k * n + each k * n + 7) / 8)
    × (length (data_of PseudoBinary (replicate n c)) ≡ (width k * started k n + each k * n + 7) / 8)
alike-bytes k c n is =
    let text = replicate n c in
    let back = comes_back PseudoBinary text in
    let long : length text ≡ n = length-replicate {A = ℕ} n c in
    let s = single-ones k text (alike-replicate k c n is) refl refl in (
      s.carries,
      bits-bytes PseudoBinary back (written (singly text)) s.carries ∙ ap (λ (x : ℕ). (x + 7) / 8) (s.has ∙ ap (λ (m : ℕ). width k * m + each k * m) long),
      bits-bytes PseudoBinary back (data_of PseudoBinary text) s.ours-carries
          ∙ ap (λ (x : ℕ). (x + 7) / 8) (s.ours-has ∙ ap (λ (m : ℕ). width k * started k m + each k * m) long),
    )

pub waste : Waste
unfolding is_of our_most width each started
waste = record {
  times-at-most = bits-apart;
  bytes-at-most = bytes_apart;
  times-reached = apart-reached;
  single-slashes = λ n.
      single-ones slashes (replicate n SLASH) (alike-replicate slashes SLASH n refl) (omega (arith, length-replicate {A = ℕ} n SLASH))
      (omega (arith, length-replicate {A = ℕ} n SLASH));
  single-values = λ text alike. single-ones values text alike (omega arith) (omega arith);
}
