-- Demand 3 holds, under all terms that may be named.
-- Assumes nothing.
use mathlib.Core.Bool.{Bool}
use mathlib.Core.List.{List, [], ◌∷◌, ◌++◌}
use mathlib.Core.Logic.{◌≢◌, ◌↔◌}
use mathlib.Core.Path.{◌≡◌, refl, sym, ap, ap₂, ◌∙◌, subst, subst₂}
use Prim.Native.Nat.{ℕ, ◌^◌, ◌≤◌, ◌<◌}
use native.Mathlib.Omega.{arith}
use lib.Bits.{bit_xor}
use lib.ListN.{length, drop}
use Rattle.std.specs.Prelude.{Ok, Err}
use Rattle.bits.specs.Row.{Bytes}
use Rattle.bits.specs.Word.{bit}
use Rattle.bits.proofs.Ones.{xor-bit-told}
use Rattle.header.specs.declared.Format.{Format}
use Rattle.header.specs.Fields.{bytes_of}
use Rattle.header.specs.Valid.{Valid}
use Rattle.distance.specs.Distance.{ValidWithin, distance}
use Rattle.distance.proofs.Unique.{one-near, none_within}
use Rattle.checksum.specs.Alike.{AlikeBut}
use Rattle.checksum.specs.Checksum.{checksum_bytes}
use Rattle.checksum.proofs.Detect.{checksum-bytes-detect}
use Rattle.checksum.proofs.Row.{checksum-bytes-length}
use Rattle.sections.specs.Sections.{section_count, section, in_sections, besides}
use Rattle.formats.specs.Data.{codes_in, comes_back}
use Rattle.refusals.specs.declared.ExamineRefusal.TheVariants.{NoHeader, Checksum}
use Rattle.refusals.specs.declared.ReadRefusal.TheVariants.{Packet}
use Rattle.terms.specs.declared.Terms.{Terms}
use Rattle.examine.specs.declared.Reading.{Reading}
use Rattle.examine.specs.Examine.{ExamineAnswer, reading_of, Accepts, Refuses, Examines}
use Rattle.packet.specs.Packet.{received, data_in, packet_of, header_for}
use Rattle.reader.specs.Reader.{ReadAnswer, Reads}
use Rattle.terms.specs.Terms.{MayBeNamed}
use Rattle.examine.proofs.ExamineOnce.{examines-one}
use Rattle.examine.proofs.ExamineStages.{clear-two}
use Rattle.reader.proofs.ReadOnce.{reads-one, refused-packet}
use Rattle.packet.proofs.Sent.{received-front, arrived, header-valid}
use Rattle.examine.proofs.Sent.{sent-allowed, sent-codes, sent-reading, sent-refused}
use Rattle.demands.specs.Demand3.{RefusedByChecksum, Demand3}
use Rattle.demands.specs.Makers.{Made, Flipped, FlippedBeyond, arriving, reading_with}

module _ (terms : Terms) (named : MayBeNamed terms) (format : Format) (sync : Bool) (text packet : List ℕ) (made : Made terms format sync text packet) where
  pub small : length made.carried < 2 ^ 14
  small = omega (arith, made.few, named.bytes)

  -- the header that was sent
  pub packet-header : received packet ≡ header_for format sync (length made.carried)
  unfolding packet_of
  packet-header =
      ap received made.is
      ∙ received-front (header_for format sync (length made.carried)) (in_sections made.carried) (header-valid format sync (length made.carried) small).bits

  pub near : (word : ℕ) → Flipped terms packet word → distance word (header_for format sync (length made.carried)) ≤ terms.mend
  near word flipped = subst (λ (h : ℕ). distance word h ≤ terms.mend) packet-header flipped.few

  pub arrives : (word : ℕ) (after : List ℕ) → arriving word packet after ≡ arrived word (in_sections made.carried) after
  unfolding arriving packet_of bytes_of
  arrives word after = ap (λ (l : List ℕ). bytes_of word ++ (drop 4 l ++ after)) made.is

  module _ (word : ℕ) (flipped : Flipped terms packet word) (after entry exit : List ℕ) (answer : ReadAnswer) where
    pub intact : length (comes_back format text) ≤ length entry → Reads terms (arriving word packet after) entry answer exit
        → (answer
        ≡ Ok
        (reading_with format sync (distance word (received packet)) (bit_xor word (received packet))
        (codes_in format (comes_back format text) made.carried made.carries) (length made.carried) (length (comes_back format text))))
        × (exit ≡ comes_back format text ++ drop (length (comes_back format text)) entry)
    intact held reads =
        let back = comes_back format text in
        let header = header_for format sync (length made.carried) in
        let came = arrived word (in_sections made.carried) after in
        let allowed = sent-allowed terms named format sync word made.carried after made.some made.few flipped.bits (near word flipped) back made.carries in
        let codes = codes_in format back (data_in header came) allowed.carries in
        let sent = sent-codes terms named format sync word made.carried after made.some made.few flipped.bits (near word flipped) back made.carries in
        let once =
        reads-one terms named.bytes came entry answer (Ok (reading_of format header (received came) back codes)) exit (back ++ drop (length back) entry)
        (subst (λ (p : List ℕ). Reads terms p entry answer exit) (arrives word after) reads)
        (back, record { format = format; header = header; allowed = allowed; is = refl }, held, refl) in (
          once.0
              ∙ ap {B = ReadAnswer} Ok
              (sent-reading terms named format sync word made.carried after made.some made.few flipped.bits (near word flipped) back codes)
              ∙ ap₂ (λ (h k : ℕ). Ok (reading_with format sync (distance word h) (bit_xor word h) k (length made.carried) (length back))) (sym packet-header) sent,
          once.1,
        )

    -- as many bytes came for a section and its checksum, but the checksum is not theirs: refused, and nothing is handed out
    refused : (k : ℕ) → k < section_count (length made.carried) → (row sum : List ℕ) → length row ≡ length (section made.carried k) → length sum ≡ 2
        → (sum ≡ checksum_bytes row → ⊥) → Reads terms (arrived word (besides made.carried k (row ++ sum)) after) entry answer exit
        → RefusedByChecksum k entry answer exit
    refused k there row sum as_long two bad reads =
        let came = arrived word (besides made.carried k (row ++ sum)) after in
        let refuses =
        sent-refused terms named format sync word made.carried after made.some made.few flipped.bits (near word flipped) k there row sum as_long two bad in
        reads-one terms named.bytes came entry answer (Err (Packet (Checksum k))) exit entry reads (refused-packet terms came (length entry) (Checksum k) refuses, refl)

    pub damaged-data : (k : ℕ) → k < section_count (length made.carried) → (place : ℕ) (other : List ℕ) → Bytes (section made.carried k) → Bytes other
        → AlikeBut place other (section made.carried k) → other ≢ section made.carried k
        → Reads terms (bytes_of word ++ (besides made.carried k (other ++ checksum_bytes (section made.carried k)) ++ after)) entry answer exit
        → RefusedByChecksum k entry answer exit
    damaged-data k there place other bytes other-bytes alike differs =
        refused k there other (checksum_bytes (section made.carried k)) alike.same_length (checksum-bytes-length (section made.carried k))
        (λ e. checksum-bytes-detect alike other-bytes bytes differs (sym e))

    pub damaged-sum : (k : ℕ) → k < section_count (length made.carried) → (low high : ℕ) → low ∷ high ∷ [] ≢ checksum_bytes (section made.carried k)
        → Reads terms (bytes_of word ++ (besides made.carried k (section made.carried k ++ (low ∷ high ∷ [])) ++ after)) entry answer exit
        → RefusedByChecksum k entry answer exit
    damaged-sum k there low high differs = refused k there (section made.carried k) (low ∷ high ∷ []) refl refl differs

  -- ---- which bits were flipped

  module _ (word : ℕ) (flipped : Flipped terms packet word) (after : List ℕ) (reading : Reading) (read : List ℕ)
      (a : Accepts terms (arriving word packet after) reading read) where
    came-word : received (arriving word packet after) ≡ word
    unfolding arriving
    came-word = received-front word (drop 4 packet ++ after) flipped.bits

    sent-header : a.header ≡ received packet
    sent-header =
        one-near terms.mend word a.header (header_for format sync (length made.carried)) named.bits
        (subst (λ (w : ℕ). ValidWithin terms.mend w a.header) came-word a.allowed.framed.near)
        (record { valid = header-valid format sync (length made.carried) small; near = near word flipped })
        ∙ sym packet-header

    mask_is : reading.mask ≡ bit_xor word (received packet)
    mask_is = ap (λ (r : Reading). r.mask) a.is ∙ ap₂ bit_xor came-word sent-header

    -- at its own place in the mask
    flipped-at : (k place : ℕ) → place ≡ k → (bit place reading.mask ≡ 1) ↔ (bit k word ≢ bit k (received packet))
    flipped-at k place e =
        subst₂ (λ (p m : ℕ). (bit p m ≡ 1) ↔ (bit k word ≢ bit k (received packet))) (sym e) (sym mask_is) (xor-bit-told k word (received packet))

  -- ---- more bits flipped than named

  module _ (word : ℕ) (flipped : FlippedBeyond terms packet word) (behind : List ℕ) where
    abbrev came : List ℕ
    came = bytes_of word ++ behind

    four : 4 ≤ length came
    unfolding bytes_of
    four = omega arith

    far : (header : ℕ) → ValidWithin terms.mend (received came) header → ⊥
    far =
        subst (λ (w : ℕ). (header : ℕ) → ValidWithin terms.mend w header → ⊥) (sym (received-front word behind flipped.bits))
        (none_within terms.mend word (received packet) (subst Valid (sym packet-header) (header-valid format sync (length made.carried) small)) flipped.more (omega (arith, flipped.few)))

    no_header : Refuses terms came NoHeader
    no_header = record { fault = far; first = clear-two terms came named.bits four }

    pub beyond : (entry exit : List ℕ) (answer : ReadAnswer) → Reads terms came entry answer exit → (answer ≡ Err (Packet NoHeader)) × (exit ≡ entry)
    beyond entry exit answer reads =
        reads-one terms named.bytes came entry answer (Err (Packet NoHeader)) exit entry reads (refused-packet terms came (length entry) NoHeader no_header, refl)

    pub beyond-examined : (answer : ExamineAnswer) → Examines terms came answer → answer ≡ Err NoHeader
    beyond-examined answer examines = examines-one terms named.bytes came answer (Err NoHeader) examines no_header

pub demand-3 : (terms : Terms) → MayBeNamed terms → Demand3 terms
demand-3 terms named = record {
  intact = intact terms named;
  flipped-told = λ format sync text packet made word flipped after reading read a k.
      flipped-at terms named format sync text packet made word flipped after reading read a k _ (omega arith);
  damaged-data = damaged-data terms named;
  damaged-sum = damaged-sum terms named;
  beyond = beyond terms named;
  beyond-examined = beyond-examined terms named;
}
