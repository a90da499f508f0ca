-- For P5's header, any data byte behind it, its checksum and whatever follows, the line is exactly `ok 0 0 2 81000000 1 1` and a newline.
-- Assumes nothing.
use mathlib.Core.Bool.{false}
use mathlib.Core.List.{List, [], ◌∷◌, ◌++◌}
use mathlib.Core.Path.{◌≡◌, refl, sym, ap, ap₂, ◌∙◌, subst}
use Prim.Native.Nat.{ℕ, ◌≤◌}
use native.Mathlib.Omega.{arith}
use lib.Bits.{bit_xor}
use lib.Count.{ones_in}
use Rattle.std.specs.Prelude.{Ok}
use Rattle.bits.specs.Word.{differences}
use Rattle.header.specs.declared.Format.TheVariants.{Open}
use Rattle.header.specs.Check.{generator, remainder, check_of}
use Rattle.header.specs.Fields.{bytes_of, header_of, low_flag}
use Rattle.header.specs.Flag.{parity_for}
use Rattle.distance.specs.Distance.{distance}
use Rattle.checksum.specs.Checksum.{checksum_bytes}
use Rattle.sections.specs.Sections.{in_turn, section, sent_section, in_sections}
use Rattle.packet.specs.Packet.{received, packet_of, header_for}
use Rattle.reader.specs.Reader.{Reads}
use Rattle.terms.specs.Terms.{naming}
use Rattle.demands.specs.Makers.{Made, Flipped, arriving, reading_with}
use Rattle.demands.proofs.Promised.{kept-naming}
use Rattle.lines.specs.Line.{decimal_in, decimal, hexadecimal_digit, hexadecimal_in, hexadecimal, spaced, line as line_with}
use Rattle.report.specs.Line.{line_of}
use Rattle.report.specs.Report.{Prints}

-- in ASCII
abbrev pub printed : List ℕ
printed =
    111 ∷ 107 ∷ 32 ∷ 48 ∷ 32 ∷ 48 ∷ 32 ∷ 50 ∷ 32 ∷ 56 ∷ 49 ∷ 48 ∷ 48 ∷ 48 ∷ 48 ∷ 48 ∷ 48 ∷ 32 ∷ 49 ∷ 32 ∷ 49 ∷ 10 ∷ []

-- what comes: two bits of the header turned over
arrives : (byte : ℕ) (after : List ℕ)
    → 0xC1 ∷ 0x00 ∷ 0x04 ∷ 0xDD ∷ byte ∷ (checksum_bytes (byte ∷ []) ++ after) ≡ arriving 0xC10004DD (packet_of (header_for Open false 1) (byte ∷ [])) after
unfolding arriving packet_of bytes_of in_sections in_turn sent_section section
arrives byte after = refl

abbrev made : (byte : ℕ) → Made (naming 2 false) Open false (byte ∷ []) (packet_of (header_for Open false 1) (byte ∷ []))
made byte = record { carried = byte ∷ []; coded = λ i lt. tt; carries = refl; some = omega arith; few = omega arith; is = refl }

-- its header, and the two bits in which what comes differs from it
sent : (byte : ℕ) → received (packet_of (header_for Open false 1) (byte ∷ [])) ≡ 0x400004DD
unfolding received packet_of header_for header_of low_flag parity_for ones_in bytes_of check_of remainder generator
sent byte = refl

two : distance 0xC10004DD 0x400004DD ≡ 2
unfolding distance differences ones_in
two = refl

flipped : (byte : ℕ) → Flipped (naming 2 false) (packet_of (header_for Open false 1) (byte ∷ [])) 0xC10004DD
flipped byte =
    record {
      bits = omega arith;
      few = subst (λ (header : ℕ). distance 0xC10004DD header ≤ 2) (sym (sent byte)) (omega (arith, two));
    }

-- the line of a reading with these bits mended
read-so : (mended mask : ℕ) → mended ≡ 2 → mask ≡ 0x81000000
    → line_of (Ok (reading_with Open false mended mask 0 1 1)) ≡ printed
unfolding decimal_in decimal hexadecimal_digit hexadecimal_in hexadecimal spaced line_with
read-so mended mask m k = ap₂ (λ (x y : ℕ). line_of (Ok (reading_with Open false x y 0 1 1))) m k

pub five : {line : List ℕ} (byte : ℕ) (after : List ℕ) → Prints (0xC1 ∷ 0x00 ∷ 0x04 ∷ 0xDD ∷ byte ∷ (checksum_bytes (byte ∷ []) ++ after)) line
    → line ≡ printed
five byte after p =
    let packet = packet_of (header_for Open false 1) (byte ∷ []) in
    let once =
    ((kept-naming 2 false).demand-3 (omega arith)).intact Open false (byte ∷ []) packet (made byte) 0xC10004DD (flipped byte) after p.entry p.exit p.answer (omega (arith, p.lent))
    (subst (λ (l : List ℕ). Reads (naming 2 false) l p.entry p.answer p.exit) (arrives byte after) p.reads) in
    p.is ∙ ap line_of once.0
    ∙ read-so (distance 0xC10004DD (received packet)) (bit_xor 0xC10004DD (received packet)) (ap (distance 0xC10004DD) (sent byte) ∙ two) (ap (bit_xor 0xC10004DD) (sent byte))
