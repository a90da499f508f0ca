-- A packet that is written in its place: the data from byte 4 on, in a part of the buffer; there in sections, each with its checksum; then the header.
-- Assumes nothing.
use mathlib.Core.Bool.{Bool}
use mathlib.Core.List.{List, ◌++◌, append_assoc}
use mathlib.Core.Path.{◌≡◌, sym, ap, ap₂, ◌∙◌}
use Prim.Native.Nat.{ℕ, ◌+◌, ◌-◌, ◌*◌, ◌≤◌}
use native.Mathlib.Omega.{arith}
use lib.ListN.{length, take, drop, length-append, length-drop}
use lib.Seq.{take_at, take_all, drop_at, drop-drop, length-take-le}
use Rattle.header.specs.declared.Format.{Format}
use Rattle.header.specs.Fields.{bytes_of}
use Rattle.sections.specs.Sections.{section_count, sent_length, in_sections}
use Rattle.sections.proofs.Lent.{part-put}
use Rattle.codes.specs.Steps.Laid.{Fronted}
use Rattle.formats.specs.Data.{data_of}
use Rattle.packet.specs.Packet.{whole_length, packet_of, header_for}
use Rattle.writer.specs.Writer.{our_packet}

-- a row at the front of the part behind the header, back in its place
front-back : (s row x : List ℕ) (k n : ℕ) → n ≤ k → k + 4 ≤ length s → x ≡ row ++ drop n (take k (drop 4 s))
    → take 4 s ++ (x ++ drop k (drop 4 s)) ≡ take 4 s ++ (row ++ drop (n + 4) s)
front-back s row x k n held room e =
    part-put s row x 4 k n held (omega arith) e
    ∙ ap (λ (m : ℕ). take 4 s ++ (row ++ drop m s)) (let turned : 4 + n ≡ n + 4 = omega arith in turned)

-- with a row in its place
module _ (s row : List ℕ) (n : ℕ) (room : n + 4 ≤ length s) where
  abbrev one : List ℕ
  one = take 4 s ++ (row ++ drop (n + 4) s)

  four : length (take 4 s) ≡ 4
  four = length-take-le 4 s (omega arith)

  row-there : drop 4 one ≡ row ++ drop (n + 4) s
  row-there = drop_at (take 4 s) (row ++ drop (n + 4) s) 4 four

  row_read : n ≡ length row → take n (drop 4 one) ≡ row
  row_read long = ap (take n) row-there ∙ take_at row (drop (n + 4) s) n (sym long)

  behind-row : n ≡ length row → (m : ℕ) → drop (n + 4 + m) one ≡ drop (n + 4 + m) s
  behind-row long m =
      sym (drop-drop m (n + 4) one)
      ∙ ap (drop m)
      (ap (drop (n + 4)) (sym (append_assoc (take 4 s) row (drop (n + 4) s)))
      ∙ drop_at (take 4 s ++ row) (drop (n + 4) s) (n + 4) (omega (arith, long, length-append (take 4 s) row, four)))
      ∙ drop-drop m (n + 4) s

-- the data in sections and the header in front, where the part that is lent is all behind byte 4
pub framed : (s x after : List ℕ) (n header : ℕ) → whole_length n ≤ length s
    → (let part = take (length s - 4) (drop 4 s) in x ≡ in_sections (take n part) ++ drop (sent_length n) part)
    → after ≡ bytes_of header ++ drop 4 (take 4 s ++ (x ++ drop (length s - 4) (drop 4 s)))
    → after ≡ packet_of header (take n (drop 4 s)) ++ drop (whole_length n) s
unfolding packet_of
framed s x after n header room divided put =
    let part = take (length s - 4) (drop 4 s) in
    let whole : part ≡ drop 4 s = take_all (length s - 4) (drop 4 s) (omega (arith, length-drop 4 s)) in
    let sent = in_sections (take n (drop 4 s)) in
    let there = front-back s sent x (length s - 4) (sent_length n) (omega arith) (omega arith)
    (divided ∙ ap (λ (l : List ℕ). in_sections (take n l) ++ drop (sent_length n) part) whole) in
    put
    ∙ ap (λ (l : List ℕ). bytes_of header ++ l) (ap (drop 4) there ∙ row-there s sent (sent_length n) (omega arith))
    ∙ sym (append_assoc (bytes_of header) sent (drop (sent_length n + 4) s))
    ∙ ap (λ (m : ℕ). packet_of header (take n (drop 4 s)) ++ drop m s) (let turned : sent_length n + 4 ≡ whole_length n = omega arith in turned)

-- and before that the data: the packet of the text, where the part that is lent is as long as the data
pub packet-there : (format : Format) (sync : Bool) (text s x : List ℕ) (k n r : ℕ) → k ≡ n → n ≡ length (data_of format text) → whole_length n ≤ length s
    → Fronted (data_of format text) (take k (drop 4 s)) x r → (after : List ℕ)
    → (let one = take 4 s ++ (x ++ drop k (drop 4 s)) in after ≡ packet_of (header_for format sync n) (take n (drop 4 one)) ++ drop (whole_length n) one)
    → after ≡ our_packet format sync text ++ drop (whole_length n) s
unfolding our_packet
packet-there format sync text s x k n r same long room put after frame =
    let carried = data_of format text in
    let there = front-back s carried x k n (omega arith) (omega arith)
    (put.whole ∙ ap (λ (m : ℕ). carried ++ drop m (take k (drop 4 s))) (put.size ∙ sym long)) in
    frame
    ∙ ap (λ (l : List ℕ). packet_of (header_for format sync n) (take n (drop 4 l)) ++ drop (whole_length n) l) there
    ∙ ap₂ (λ (l m : List ℕ). packet_of (header_for format sync n) l ++ m)
    (row_read s carried n (omega arith) long) (behind-row s carried n (omega arith) long (2 * section_count n))
    ∙ ap (λ (m : ℕ). packet_of (header_for format sync m) carried ++ drop (whole_length n) s) long
