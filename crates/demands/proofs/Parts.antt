-- A packet that is accepted: the four bytes of its header, the data in its sections, and what follows; and its valid header is the one that is sent
-- with its format, sync bit and length.
-- Assumes nothing.
use mathlib.Core.Bool.{Bool}
use mathlib.Core.List.{List, [], ◌∷◌, ◌++◌}
use mathlib.Core.Path.{◌≡◌, sym, ap, ◌∙◌}
use Prim.Native.Nat.{ℕ, ◌/◌, ◌%◌, ◌^◌, ◌≤◌, ◌<◌}
use native.Mathlib.Omega.{arith}
use lib.ListN.{length, drop, length-append, length-drop}
use Rattle.bits.specs.Row.{Bytes}
use Rattle.header.specs.declared.Format.{Format}
use Rattle.header.specs.Fields.{fields_in, header_of, sent_fields, word_of, bytes_of}
use Rattle.header.specs.Formats.{HasFormat, format_number}
use Rattle.header.specs.Valid.{Valid, length_in}
use Rattle.header.proofs.Made.{valid-made}
use Rattle.sections.specs.Sections.{sent_length, in_sections}
use Rattle.sections.proofs.Found.{joined_length, sent_back, sent-length}
use Rattle.packet.specs.Packet.{whole_length, received, data_in, Summed, packet_of, header_for}

-- ---- the header

pub header_is : (header : ℕ) (format : Format) (sync : Bool) → Valid header → HasFormat (fields_in header) format → sync ≡ (fields_in header).sync
    → header_for format sync (length_in header) ≡ header
unfolding header_for fields_in
header_is header format sync valid typed same =
    let fields : sent_fields (format_number format) sync (length_in header) ≡ fields_in header =
    λ i.
    record {
      message_type = sym typed.message_type i;
      extended_type = sym typed.extended_type i;
      sync = same i;
      spare = sym typed.spare i;
      length = length_in header;
    } in
    ap header_of fields ∙ valid-made header valid

-- ---- its four bytes

module _ (a b c d : ℕ) (a_byte : a < 256) (b-byte : b < 256) (c-byte : c < 256) (d-byte : d < 256) where
  pub word_lt : word_of a b c d < 2 ^ 32
  word_lt = omega arith

  first : word_of a b c d / 2 ^ 24 % 2 ^ 8 ≡ a
  first = omega arith

  second : word_of a b c d / 2 ^ 16 % 2 ^ 8 ≡ b
  second = omega arith

  third : word_of a b c d / 2 ^ 8 % 2 ^ 8 ≡ c
  third = omega arith

  fourth : word_of a b c d % 2 ^ 8 ≡ d
  fourth = omega arith

  word_back : bytes_of (word_of a b c d) ≡ a ∷ b ∷ c ∷ d ∷ []
  unfolding bytes_of
  word_back = λ i. first i ∷ second i ∷ third i ∷ fourth i ∷ []

pub received-lt : (packet : List ℕ) → 4 ≤ length packet → Bytes packet → received packet < 2 ^ 32
unfolding received
received-lt (a ∷ b ∷ c ∷ d ∷ rest) four (la, (lb, (lc, (ld, more)))) = word_lt a b c d la lb lc ld
received-lt (a ∷ b ∷ c ∷ []) four bytes = absurd (let no' : ⊥ = omega arith in no')
received-lt (a ∷ b ∷ []) four bytes = absurd (let no' : ⊥ = omega arith in no')
received-lt (a ∷ []) four bytes = absurd (let no' : ⊥ = omega arith in no')
received-lt [] four bytes = absurd (let no' : ⊥ = omega arith in no')

pub head-and-rest : (packet : List ℕ) → 4 ≤ length packet → Bytes packet → packet ≡ bytes_of (received packet) ++ drop 4 packet
unfolding received
head-and-rest (a ∷ b ∷ c ∷ d ∷ rest) four (la, (lb, (lc, (ld, more)))) = ap (λ (l : List ℕ). l ++ rest) (sym (word_back a b c d la lb lc ld))
head-and-rest (a ∷ b ∷ c ∷ []) four bytes = absurd (let no' : ⊥ = omega arith in no')
head-and-rest (a ∷ b ∷ []) four bytes = absurd (let no' : ⊥ = omega arith in no')
head-and-rest (a ∷ []) four bytes = absurd (let no' : ⊥ = omega arith in no')
head-and-rest [] four bytes = absurd (let no' : ⊥ = omega arith in no')

-- ---- what is behind it

pub packet-length : (header : ℕ) (carried : List ℕ) → length (packet_of header carried) ≡ whole_length (length carried)
unfolding packet_of bytes_of
packet-length header carried = omega (arith, length-append (bytes_of header) (in_sections carried), sent-length carried)

module _ (packet : List ℕ) (header : ℕ) (whole : whole_length (length_in header) ≤ length packet) where
  all_there : sent_length (length_in header) ≤ length (drop 4 packet)
  all_there = omega (arith, length-drop 4 packet)

  pub data-size : length (data_in header packet) ≡ length_in header
  unfolding data_in
  data-size = joined_length (length_in header) (drop 4 packet) all_there

  pub behind-header : Summed header packet → drop 4 packet ≡ in_sections (data_in header packet) ++ drop (sent_length (length_in header)) (drop 4 packet)
  unfolding data_in
  behind-header = sent_back (length_in header) (drop 4 packet) all_there
