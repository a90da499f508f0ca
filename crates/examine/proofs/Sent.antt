-- What is found out about a packet that was sent, with no more bits of its header changed than are mended, and anything behind it.
-- Assumes nothing.
use mathlib.Core.Bool.{Bool}
use mathlib.Core.List.{List, ◌++◌}
use mathlib.Core.Path.{◌≡◌, sym, subst}
use Prim.Native.Nat.{ℕ, ◌^◌, ◌≤◌, ◌<◌}
use native.Mathlib.Omega.{arith}
use lib.Bits.{bit_xor}
use lib.ListN.{length, length-append}
use Rattle.header.specs.declared.Format.{Format}
use Rattle.header.specs.Valid.{length_in}
use Rattle.distance.specs.Distance.{ValidWithin, distance}
use Rattle.checksum.specs.Checksum.{checksum_bytes}
use Rattle.formats.specs.Data.{Carries, codes_in}
use Rattle.formats.proofs.Codes.{codes_same}
use Rattle.sections.specs.Sections.{section_count, sent_length, section, sent_section, in_sections, besides, FirstWrong}
use Rattle.sections.proofs.Damaged.{besides-length, first-wrong}
use Rattle.sections.proofs.Found.{section-length, sent-section-length, sent-length}
use Rattle.packet.specs.Packet.{whole_length, received, data_in, header_for}
use Rattle.packet.proofs.Sent.{header-valid, header-typed, header-length, header-sync, arrived, received_is, body_is, long-enough, data_is, sums-right}
use Rattle.refusals.specs.declared.ExamineRefusal.TheVariants.{Checksum}
use Rattle.terms.specs.declared.Terms.{Terms}
use Rattle.terms.specs.Terms.{MayBeNamed}
use Rattle.examine.specs.Examine.{Framed, Allowed, reading_of, Refuses}
use Rattle.examine.proofs.ExamineStages.{clear-six}

module _ (terms : Terms) (named : MayBeNamed terms) (format : Format) (sync : Bool) (word : ℕ) (carried after : List ℕ)
    (some : 1 ≤ length carried) (few : length carried ≤ terms.most) (bits : word < 2 ^ 32)
    (near : distance word (header_for format sync (length carried)) ≤ terms.mend) where
  abbrev header : ℕ
  header = header_for format sync (length carried)

  small : length carried < 2 ^ 14
  small = omega (arith, named.bytes)

  long : length_in header ≡ length carried
  long = header-length format sync (length carried) small

  -- whatever came behind the header, as many bytes as were sent or more
  module _ (sent : List ℕ) (whole : sent_length (length carried) ≤ length sent) where
    header-near : ValidWithin terms.mend (received (arrived word sent after)) header
    header-near =
        subst (λ (w : ℕ). ValidWithin terms.mend w header) (sym (received_is word sent after bits))
        (record { valid = header-valid format sync (length carried) small; near = near })

    framed : Framed terms (arrived word sent after) format header
    framed =
        record {
          bits = named.bits;
          near = header-near;
          typed = header-typed format sync (length carried) small;
          some = omega (arith, long);
          few = omega (arith, long);
          whole = omega (arith, long, long-enough word sent after);
        }

  -- what was sent came
  abbrev packet : List ℕ
  packet = arrived word (in_sections carried) after

  pub sent-allowed : (text : List ℕ) → Carries format text carried → Allowed terms packet format header text
  sent-allowed text carries =
      record {
        framed = framed (in_sections carried) (omega (arith, sent-length carried));
        summed = sums-right word carried after header long;
        carries = subst (Carries format text) (sym (data_is word carried after header long)) carries;
      }

  -- in as many codes as were sent
  pub sent-codes : (text : List ℕ) (carries : Carries format text carried)
      → codes_in format text (data_in header packet) (sent-allowed text carries).carries ≡ codes_in format text carried carries
  sent-codes text carries =
      codes_same format text text (data_in header packet) carried (data_is word carried after header long) (sent-allowed text carries).carries carries

  -- the reading of it, by what was sent
  pub sent-reading : (text : List ℕ) (codes : ℕ)
      → reading_of format header (received packet) text codes
      ≡ record {
        format = format;
        sync = sync;
        mended = distance word header;
        mask = bit_xor word header;
        codes = codes;
        data_length = length carried;
        text_length = length text;
        used = whole_length (length carried);
      }
  sent-reading text codes = λ i.
      record {
        format = format;
        sync = header-sync format sync (length carried) small i;
        mended = distance (received_is word (in_sections carried) after bits i) header;
        mask = bit_xor (received_is word (in_sections carried) after bits i) header;
        codes = codes;
        data_length = long i;
        text_length = length text;
        used = whole_length (long i);
      }

  -- as many bytes came for section k and its checksum, but the checksum is not theirs
  pub sent-refused : (k : ℕ) → k < section_count (length carried) → (row sum : List ℕ) → length row ≡ length (section carried k) → length sum ≡ 2
      → (sum ≡ checksum_bytes row → ⊥) → Refuses terms (arrived word (besides carried k (row ++ sum)) after) (Checksum k)
  sent-refused k there row sum as_long two bad =
      let came = besides carried k (row ++ sum) in
      let same : length (row ++ sum) ≡ length (sent_section carried k) =
      omega (arith, length-append row sum, as_long, two, section-length carried k, sent-section-length carried k) in
      let enough : sent_length (length carried) ≤ length came = omega (arith, besides-length carried k there (row ++ sum) same) in
      record {
        fault = (
          header,
          header-near came enough,
          subst (λ (l : List ℕ). FirstWrong (length_in header) l k) (sym (body_is word came after))
              (first-wrong carried k there (length_in header) long row sum after as_long two bad),
        );
        first = clear-six terms (arrived word came after) named header format (framed came enough);
      }
