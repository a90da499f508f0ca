-- Data that lies in one piece, divided into sections from its end on.
-- Assumes nothing.
use mathlib.Core.List.{List, ◌++◌, append_assoc}
use mathlib.Core.Path.{◌≡◌, refl, sym, ap, ap₂, ◌∙◌}
use Prim.Native.Nat.{ℕ, suc, ◌+◌, ◌-◌, ◌*◌, ◌<◌, ◌≤◌, min}
use native.Mathlib.Omega.{arith}
use lib.ListN.{length, take, drop, length-append, length-drop}
use lib.Seq.{take_at, take_all, take-append-le, take-take, take-add, drop_at, drop-drop, drop-append-le, length-take-le}
use Rattle.checksum.specs.Checksum.{checksum_bytes}
use Rattle.checksum.proofs.Row.{checksum-bytes-length}
use Rattle.sections.specs.Sections.{section_count, sent_length, in_turn, section, sent_section, in_sections, size_of}
use Rattle.sections.proofs.Found.{section-length}
use Rattle.sections.proofs.Moving.{within}
use Rattle.sections.proofs.Turns.{no-turns, turns-alike, turns-from}

-- nothing gets longer by moving a section
pub as_long : (n k : ℕ) (body one : List ℕ) → k < section_count n → sent_length n ≤ length body
    → one ≡ take (k * 4002) body ++ (take (size_of n k) (drop (k * 4000) body) ++ drop (k * 4002 + size_of n k) body) → length one ≡ length body
as_long n k body one lt whole is =
    let row = take (size_of n k) (drop (k * 4000) body) in
    ap length is
    ∙ omega (
      arith,
      length-append (take (k * 4002) body) (row ++ drop (k * 4002 + size_of n k) body),
      length-append row (drop (k * 4002 + size_of n k) body),
      length-take-le (k * 4002) body (omega arith),
      length-take-le (size_of n k) (drop (k * 4000) body) (omega (arith, length-drop (k * 4000) body)),
      length-drop (k * 4002 + size_of n k) body,
    )

-- the sections from k on stand where they are sent, and the data before them as it was
pub record Divided (n : ℕ) (s : List ℕ) (k : ℕ) (body : List ℕ) : Type 0 where
  pub some : k ≤ section_count n
  pub long : length body ≡ length s
  pub front : take (min n (k * 4000)) body ≡ take (min n (k * 4000)) s
  pub behind : drop (min n (k * 4000) + 2 * k) body ≡ in_turn (λ j. sent_section (take n s) (k + j)) (section_count n - k) ++ drop (sent_length n) s

module _ (n : ℕ) (s : List ℕ) (whole : sent_length n ≤ length s) where
  -- where section k starts, and where it will
  abbrev from : ℕ → ℕ
  from k = min n (k * 4000)

  abbrev to : ℕ → ℕ
  to k = min n (k * 4000) + 2 * k

  carried-length : length (take n s) ≡ n
  carried-length = length-take-le n s (omega arith)

  pub none-divided : (k : ℕ) → k ≡ section_count n → Divided n s k s
  none-divided k e =
      record {
        some = omega arith;
        long = refl;
        front = refl;
        behind = ap (λ (m : ℕ). drop m s) (let all : to k ≡ sent_length n = omega arith in all)
            ∙ ap (λ (l : List ℕ). l ++ drop (sent_length n) s)
            (sym (no-turns (λ j. sent_section (take n s) (k + j)) (section_count n - k) (omega arith)));
      }

  pub all-divided : (k : ℕ) (body : List ℕ) → k ≡ 0 → Divided n s k body → body ≡ in_sections (take n s) ++ drop (sent_length n) s
  unfolding in_sections
  all-divided k body none d =
      ap (λ (m : ℕ). drop m body) (let front : 0 ≡ to k = omega arith in front)
      ∙ d.behind
      ∙ ap (λ (l : List ℕ). l ++ drop (sent_length n) s)
      (ap (in_turn (λ j. sent_section (take n s) (k + j))) (let all : section_count n - k ≡ section_count n = omega arith in all)
      ∙ turns-alike (λ j. sent_section (take n s) (k + j)) (sent_section (take n s)) (section_count n)
      (λ j lt. ap (sent_section (take n s)) (let same : k + j ≡ j = omega arith in same))
      ∙ ap (λ (m : ℕ). in_turn (sent_section (take n s)) (section_count m)) (sym carried-length))

  -- section k moved to its place, and its checksum put behind it
  module _ (k next : ℕ) (is : next ≡ suc k) (body one two : List ℕ) (size : ℕ) (sized : size ≡ size_of n k) (d : Divided n s next body)
      (moves : one ≡ take (k * 4002) body ++ (take (size_of n k) (drop (k * 4000) body) ++ drop (k * 4002 + size_of n k) body))
      (sums : two ≡ take (k * 4002 + size) one
      ++ (checksum_bytes (take (k * 4002 + size - k * 4002) (drop (k * 4002) one)) ++ drop (k * 4002 + size + 2) one)) where
    some : k < section_count n
    some = omega (arith, d.some)

    abbrev row : List ℕ
    row = section (take n s) k

    row-long : length row ≡ size
    row-long = section-length (take n s) k ∙ ap (λ (m : ℕ). size_of m k) carried-length ∙ sym sized

    row_is : take size (drop (k * 4000) body) ≡ row
    unfolding section
    row_is =
        let m = from next in
        let few : size ≤ 4000 = omega arith in
        let fits : k * 4000 + size ≡ m = omega arith in
        sym (within (k * 4000) size m body (omega arith))
        ∙ ap (λ (l : List ℕ). take size (drop (k * 4000) l)) d.front
        ∙ within (k * 4000) size m s (omega arith)
        ∙ sym (within (k * 4000) size n s (omega arith))
        ∙ sym (take-take size 4000 (drop (k * 4000) (take n s)) few)
        ∙ take_all size (take 4000 (drop (k * 4000) (take n s))) (omega (arith, row-long))

    one-is : one ≡ take (k * 4002) body ++ (row ++ drop (k * 4002 + size) body)
    one-is =
        moves
        ∙ ap (λ (m : ℕ). take (k * 4002) body ++ (take m (drop (k * 4000) body) ++ drop (k * 4002 + m) body)) (sym sized)
        ∙ ap (λ (l : List ℕ). take (k * 4002) body ++ (l ++ drop (k * 4002 + size) body)) row_is

    front_long : length (take (k * 4002) body) ≡ k * 4002
    front_long = length-take-le (k * 4002) body (omega (arith, d.long))

    behind-start : drop (k * 4002) one ≡ row ++ drop (k * 4002 + size) body
    behind-start = ap (drop (k * 4002)) one-is ∙ drop_at (take (k * 4002) body) (row ++ drop (k * 4002 + size) body) (k * 4002) front_long

    lent_row : (m : ℕ) → m ≡ size → take m (drop (k * 4002) one) ≡ row
    lent_row m e = ap (take m) behind-start ∙ take_at row (drop (k * 4002 + size) body) m (row-long ∙ sym e)

    behind-end : drop (k * 4002 + size + 2) one ≡ drop (to next) body
    behind-end =
        sym (drop-drop 2 (k * 4002 + size) one)
        ∙ ap (drop 2)
        (sym (drop-drop size (k * 4002) one) ∙ ap (drop size) behind-start ∙ drop_at row (drop (k * 4002 + size) body) size row-long)
        ∙ drop-drop 2 (k * 4002 + size) body
        ∙ ap (λ (m : ℕ). drop m body) (let place : k * 4002 + size + 2 ≡ to next = omega arith in place)

    one-long : length one ≡ length s
    one-long = as_long n k body one some (omega (arith, d.long)) moves ∙ d.long

    two_is : two ≡ take (k * 4002 + size) one ++ (checksum_bytes row ++ drop (to next) body)
    two_is =
        sums
        ∙ ap₂ (λ (l m : List ℕ). take (k * 4002 + size) one ++ (checksum_bytes l ++ m))
        (lent_row (k * 4002 + size - k * 4002) (omega arith)) behind-end

    end-long : length (take (k * 4002 + size) one) ≡ k * 4002 + size
    end-long = length-take-le (k * 4002 + size) one (omega (arith, one-long))

    one-front-long : length (take (k * 4002) one) ≡ k * 4002
    one-front-long = length-take-le (k * 4002) one (omega (arith, one-long))

    section-there : drop (k * 4002) two ≡ row ++ (checksum_bytes row ++ drop (to next) body)
    section-there =
        ap (drop (k * 4002)) two_is
        ∙ drop-append-le (k * 4002) (take (k * 4002 + size) one) (checksum_bytes row ++ drop (to next) body) (omega (arith, end-long))
        ∙ ap (λ (l : List ℕ). l ++ (checksum_bytes row ++ drop (to next) body))
        (ap (drop (k * 4002)) (take-add (k * 4002) size one)
        ∙ drop_at (take (k * 4002) one) (take size (drop (k * 4002) one)) (k * 4002) one-front-long
        ∙ lent_row size refl)

    pub next-divided : Divided n s k two
    unfolding sent_section
    next-divided =
        record {
          some = omega (arith, some);
          long = ap length two_is
              ∙ omega (
                arith,
                length-append (take (k * 4002 + size) one) (checksum_bytes row ++ drop (to next) body),
                length-append (checksum_bytes row) (drop (to next) body),
                end-long,
                checksum-bytes-length row,
                length-drop (to next) body,
                d.long,
              );
          front = ap (take (from k)) two_is
              ∙ take-append-le (from k) (take (k * 4002 + size) one) (checksum_bytes row ++ drop (to next) body) (omega (arith, end-long))
              ∙ take-take (from k) (k * 4002 + size) one (omega arith)
              ∙ ap (take (from k)) one-is
              ∙ take-append-le (from k) (take (k * 4002) body) (row ++ drop (k * 4002 + size) body) (omega (arith, front_long))
              ∙ take-take (from k) (k * 4002) body (omega arith)
              ∙ sym (take-take (from k) (from next) body (omega arith))
              ∙ ap (take (from k)) d.front
              ∙ take-take (from k) (from next) s (omega arith);
          behind = ap (λ (m : ℕ). drop m two) (let place : to k ≡ k * 4002 = omega arith in place)
              ∙ section-there
              ∙ ap (λ (l : List ℕ). row ++ (checksum_bytes row ++ l)) d.behind
              ∙ sym (append_assoc row (checksum_bytes row)
              (in_turn (λ j. sent_section (take n s) (next + j)) (section_count n - next) ++ drop (sent_length n) s))
              ∙ sym (append_assoc (row ++ checksum_bytes row)
              (in_turn (λ j. sent_section (take n s) (next + j)) (section_count n - next)) (drop (sent_length n) s))
              ∙ ap (λ (l : List ℕ). l ++ drop (sent_length n) s)
              (sym
              (turns-from (sent_section (take n s)) k (section_count n - suc k) (section_count n - k) (omega arith)
              ∙ ap (λ (m : ℕ). sent_section (take n s) k ++ in_turn (λ j. sent_section (take n s) (m + j)) (section_count n - m)) (sym is)));
        }
