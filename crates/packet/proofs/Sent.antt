-- A packet that was sent, as it is received: its header, and its parts, found again.
-- Assumes nothing.
use mathlib.Core.Bool.{Bool}
use mathlib.Core.List.{List, ◌++◌}
use mathlib.Core.Path.{◌≡◌, refl, sym, ap, ◌∙◌, subst}
use Prim.Native.Nat.{ℕ, ◌+◌, ◌^◌, ◌≤◌, ◌<◌}
use native.Mathlib.Omega.{arith}
use lib.ListN.{length, get_or, drop, length-append, get_or-append}
use Rattle.header.specs.declared.Format.{Format}
use Rattle.header.specs.declared.Header.{Header}
use Rattle.header.specs.Fields.{Fit, fields_in, sent_fields, word_of, bytes_of}
use Rattle.header.specs.Formats.{HasFormat, format_number}
use Rattle.header.specs.Valid.{Valid, length_in}
use Rattle.header.proofs.Bytes.{word_bytes}
use Rattle.header.proofs.Formats.{number_lt}
use Rattle.header.proofs.Made.{made-valid, made-reads-back}
use Rattle.sections.specs.Sections.{in_sections, joined, RightSums}
use Rattle.sections.proofs.Found.{sent-length, sent-joined, sent-sums}
use Rattle.packet.specs.Packet.{whole_length, received, data_in, Summed, header_for}

-- ---- the header of a packet of n data bytes

module _ (format : Format) (sync : Bool) (n : ℕ) (few : n < 2 ^ 14) where
  fit : Fit (sent_fields (format_number format) sync n)
  fit = record { message_type = omega arith; extended_type = number_lt format; length = omega arith }

  fields : fields_in (header_for format sync n) ≡ sent_fields (format_number format) sync n
  unfolding header_for
  fields = made-reads-back (sent_fields (format_number format) sync n) fit

  pub header-valid : Valid (header_for format sync n)
  unfolding header_for
  header-valid = made-valid (sent_fields (format_number format) sync n) fit

  pub header-typed : HasFormat (fields_in (header_for format sync n)) format
  header-typed =
      subst (λ (f : Header). HasFormat f format) (sym fields) (record { spare = refl; message_type = refl; extended_type = refl })

  pub header-length : length_in (header_for format sync n) ≡ n
  unfolding fields_in
  header-length = ap (λ (f : Header). f.length) fields

  pub header-sync : (fields_in (header_for format sync n)).sync ≡ sync
  header-sync = ap (λ (f : Header). f.sync) fields

-- whatever stands behind four bytes, their word is received
pub received-front : (word : ℕ) (behind : List ℕ) → word < 2 ^ 32 → received (bytes_of word ++ behind) ≡ word
unfolding received bytes_of
received-front word behind bits = word_bytes word bits

-- and whatever stands behind four bytes or more
pub received-behind : (packet after : List ℕ) → 4 ≤ length packet → received (packet ++ after) ≡ received packet
unfolding received
received-behind packet after four =
    let byte : (i : ℕ) → i < 4 → get_or (packet ++ after) i 0 ≡ get_or packet i 0 = λ i lt. get_or-append packet after 0 i (omega arith) in
    let first = byte 0 (omega arith) in
    let second = byte 1 (omega arith) in
    let third = byte 2 (omega arith) in
    let fourth = byte 3 (omega arith) in
    λ i. word_of (first i) (second i) (third i) (fourth i)

-- ---- what is received: a header's four bytes, what was sent behind them, and whatever follows

module _ (word : ℕ) (sent after : List ℕ) where
  abbrev pub arrived : List ℕ
  arrived = bytes_of word ++ (sent ++ after)

  pub received_is : word < 2 ^ 32 → received arrived ≡ word
  received_is = received-front word (sent ++ after)

  pub body_is : drop 4 arrived ≡ sent ++ after
  unfolding bytes_of
  body_is = refl

  pub long-enough : length sent + 4 ≤ length arrived
  unfolding bytes_of
  long-enough = omega (arith, length-append (bytes_of word) (sent ++ after), length-append sent after)

-- ---- the parts of a packet whose data was sent in sections, under a header whose length is the data's

module _ (word : ℕ) (carried after : List ℕ) (header : ℕ) (long : length_in header ≡ length carried) where
  abbrev packet : List ℕ
  packet = arrived word (in_sections carried) after

  pub whole_is : whole_length (length_in header) ≤ length packet
  whole_is = omega (arith, long, sent-length carried, long-enough word (in_sections carried) after)

  pub data_is : data_in header packet ≡ carried
  unfolding data_in
  data_is = ap (joined (length_in header)) (body_is word (in_sections carried) after) ∙ sent-joined carried (length_in header) long after

  pub sums-right : Summed header packet
  sums-right = subst (RightSums (length_in header)) (sym (body_is word (in_sections carried) after)) (sent-sums carried (length_in header) long after)
