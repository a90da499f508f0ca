-- Sections that were sent, found again where they are received; and what was received in sections, as it was sent.
-- Assumes nothing.
use mathlib.Core.List.{List, [], ◌++◌, append_assoc, append-nil}
use mathlib.Core.Path.{◌≡◌, refl, sym, ap, ap₂, ◌∙◌}
use Prim.Native.Nat.{ℕ, zero, suc, ◌+◌, ◌-◌, ◌*◌, ◌<◌, ◌≤◌, min}
use native.Mathlib.Decide.{dec_lt}
use native.Mathlib.Omega.{arith}
use lib.ListN.{length, take, drop, length-append, length-take, length-drop, take-append-drop}
use lib.Seq.{take_at, take_all, take-add, drop_at, drop-drop, length-take-le}
use Rattle.checksum.specs.Checksum.{checksum_bytes}
use Rattle.checksum.proofs.Row.{checksum-bytes-length}
use Rattle.sections.specs.Sections.{section_count, sent_length, in_turn, section, sent_section, in_sections, size_of, section_in, sum_behind, joined, RightSum, RightSums}
use Rattle.sections.proofs.Turns.{no-turns, turns-length, turns-alike, turns_at}

-- ---- rows of any width

-- a row that is all there is, or as long as what is taken
take_row : (w : ℕ) (row behind : List ℕ) → length row ≤ w → (length row < w → behind ≡ []) → take w (row ++ behind) ≡ row
take_row w row behind le none = pick (dec_lt (length row) w)
  where
    pick : Dec (length row < w) → take w (row ++ behind) ≡ row
    pick (yes less) = ap (λ (l : List ℕ). take w (row ++ l)) (none less) ∙ ap (take w) (append-nil row) ∙ take_all w row le
    pick (no full) = take_at row behind w (omega arith)

-- two rows that follow the first a
take_next : (a b c n : ℕ) (l : List ℕ) → n ≡ a + b + c → take a l ++ (take b (drop a l) ++ take c (drop (a + b) l)) ≡ take n l
take_next a b c n l e =
    sym (append_assoc (take a l) (take b (drop a l)) (take c (drop (a + b) l)))
    ∙ ap (λ (m : List ℕ). m ++ take c (drop (a + b) l)) (sym (take-add a b l))
    ∙ sym (take-add (a + b) c l)
    ∙ ap (λ (m : ℕ). take m l) (sym e)

-- ---- one section, wherever it stands

-- with what is before it, its bytes and two more
module _ (n k : ℕ) (before row sum after : List ℕ) (place : length before ≡ k * 4002) (size : length row ≡ size_of n k) (two : length sum ≡ 2) where
  abbrev came : List ℕ
  came = before ++ (row ++ (sum ++ after))

  pub section-found : section_in n came k ≡ row
  unfolding section_in
  section-found = ap (take (size_of n k)) (drop_at before (row ++ (sum ++ after)) (k * 4002) place) ∙ take_at row (sum ++ after) (size_of n k) size

  pub sum-found : sum_behind n came k ≡ sum
  unfolding sum_behind
  sum-found =
      ap (take 2)
      (sym (drop-drop (size_of n k) (k * 4002) came)
      ∙ ap (drop (size_of n k)) (drop_at before (row ++ (sum ++ after)) (k * 4002) place)
      ∙ drop_at row (sum ++ after) (size_of n k) size)
      ∙ take_at sum after 2 two

-- ---- data that was sent

module _ (carried : List ℕ) where
  pub section-length : (k : ℕ) → length (section carried k) ≡ size_of (length carried) k
  unfolding section
  section-length k = simp (length-take, length-drop)

  pub sent-section-length : (k : ℕ) → length (sent_section carried k) ≡ size_of (length carried) k + 2
  unfolding sent_section
  sent-section-length k =
      length-append (section carried k) (checksum_bytes (section carried k))
      ∙ ap₂ ◌+◌ (section-length k) (checksum-bytes-length (section carried k))

  -- sections before the last are full
  pub sent-before : (k : ℕ) → k < section_count (length carried) → length (in_turn (sent_section carried) k) ≡ k * 4002
  sent-before k lt = turns-length (sent_section carried) 4002 k (λ j less. omega (arith, sent-section-length j))

  -- the first k sections are the front of the data
  pub sections-front : (k : ℕ) → in_turn (section carried) k ≡ take (k * 4000) carried
  unfolding in_turn section
  sections-front zero = refl
  sections-front (suc k) =
      ap (λ (l : List ℕ). l ++ take 4000 (drop (k * 4000) carried)) (sections-front k)
      ∙ sym (take-add (k * 4000) 4000 carried)
      ∙ ap (λ (m : ℕ). take m carried) (let next : k * 4000 + 4000 ≡ suc k * 4000 = omega arith in next)

  -- all of them are the data
  pub sections-all : in_turn (section carried) (section_count (length carried)) ≡ carried
  sections-all =
      sections-front (section_count (length carried)) ∙ take_all (section_count (length carried) * 4000) carried (omega arith)

  -- how long they are with their checksums
  pub sent-front-length : (k : ℕ) → length (in_turn (sent_section carried) k) ≡ min (length carried) (k * 4000) + 2 * k
  unfolding in_turn
  sent-front-length zero = omega arith
  sent-front-length (suc k) =
      omega (arith, length-append (in_turn (sent_section carried) k) (sent_section carried k), sent-front-length k, sent-section-length k)

  pub sent-length : length (in_sections carried) ≡ sent_length (length carried)
  unfolding in_sections
  sent-length = omega (arith, sent-front-length (section_count (length carried)))

  -- a section is found where it was sent, in front of whatever stands behind the first so many
  module _ (n : ℕ) (long : n ≡ length carried) (many : ℕ) (within : many ≤ section_count n) (behind : List ℕ) where
    abbrev front : List ℕ
    front = in_turn (sent_section carried) many ++ behind

    apart : (k : ℕ) → k < many
        → (after : List ℕ)
        × (front ≡ in_turn (sent_section carried) k ++ (section carried k ++ (checksum_bytes (section carried k) ++ after)))
    unfolding sent_section
    apart k lt =
        let after = in_turn (λ j. sent_section carried (suc k + j)) (many - suc k) ++ behind in (
          after,
          turns_at (sent_section carried) k many lt behind
              ∙ ap (λ (l : List ℕ). in_turn (sent_section carried) k ++ l) (append_assoc (section carried k) (checksum_bytes (section carried k)) after),
        )

    place : (k : ℕ) → k < many → length (in_turn (sent_section carried) k) ≡ k * 4002
    place k lt = sent-before k (omega arith)

    size : (k : ℕ) → length (section carried k) ≡ size_of n k
    size k = section-length k ∙ ap (λ (m : ℕ). size_of m k) (sym long)

    pub sent-section-found : (k : ℕ) → k < many → section_in n front k ≡ section carried k
    sent-section-found k lt =
        let a = apart k lt in
        ap (λ (l : List ℕ). section_in n l k) a.1
        ∙ section-found n k (in_turn (sent_section carried) k) (section carried k) (checksum_bytes (section carried k)) a.0 (place k lt) (size k)
        (checksum-bytes-length (section carried k))

    pub sent-right : (k : ℕ) → k < many → RightSum n front k
    sent-right k lt =
        let a = apart k lt in
        ap (λ (l : List ℕ). sum_behind n l k) a.1
        ∙ sum-found n k (in_turn (sent_section carried) k) (section carried k) (checksum_bytes (section carried k)) a.0 (place k lt) (size k)
        (checksum-bytes-length (section carried k))
        ∙ ap checksum_bytes (sym (sent-section-found k lt))

  -- so the data is found, and every checksum is right
  module _ (n : ℕ) (long : n ≡ length carried) (after : List ℕ) where
    pub sent-joined : joined n (in_sections carried ++ after) ≡ carried
    unfolding joined in_sections
    sent-joined =
        turns-alike (section_in n (in_sections carried ++ after)) (section carried) (section_count n)
        (λ k lt. sent-section-found n long (section_count (length carried)) (omega arith) after k (omega arith))
        ∙ ap (λ (m : ℕ). in_turn (section carried) (section_count m)) long
        ∙ sections-all

    pub sent-sums : RightSums n (in_sections carried ++ after)
    unfolding in_sections
    sent-sums k lt = sent-right n long (section_count (length carried)) (omega arith) after k (omega arith)

-- ---- what came in sections

module _ (n : ℕ) (came : List ℕ) (whole : sent_length n ≤ length came) where
  pub section-in-length : (k : ℕ) → k < section_count n → length (section_in n came k) ≡ size_of n k
  unfolding section_in
  section-in-length k lt = length-take-le (size_of n k) (drop (k * 4002) came) (omega (arith, length-drop (k * 4002) came))

  pub joined-front-length : (k : ℕ) → k ≤ section_count n → length (in_turn (section_in n came) k) ≡ min n (k * 4000)
  unfolding in_turn
  joined-front-length zero le = omega arith
  joined-front-length (suc k) le =
      omega (
        arith,
        length-append (in_turn (section_in n came) k) (section_in n came k),
        joined-front-length k (omega arith),
        section-in-length k (omega arith),
      )

  pub joined_length : length (joined n came) ≡ n
  unfolding joined
  joined_length = omega (arith, joined-front-length (section_count n) (omega arith))

  -- section k of the data is the one that came
  pub joined-section : (k : ℕ) → k < section_count n → section (joined n came) k ≡ section_in n came k
  unfolding section joined
  joined-section k lt =
      let before = in_turn (section_in n came) k in
      let behind = in_turn (λ j. section_in n came (suc k + j)) (section_count n - suc k) in
      let all : in_turn (section_in n came) (section_count n) ≡ before ++ (section_in n came k ++ (behind ++ [])) =
      sym (append-nil (in_turn (section_in n came) (section_count n))) ∙ turns_at (section_in n came) k (section_count n) lt [] in
      ap (λ (l : List ℕ). take 4000 (drop (k * 4000) l)) all
      ∙ ap (take 4000) (drop_at before (section_in n came k ++ (behind ++ [])) (k * 4000) (omega (arith, joined-front-length k (omega arith))))
      ∙ take_row 4000 (section_in n came k) (behind ++ []) (omega (arith, section-in-length k lt))
      (λ less.
      ap (λ (l : List ℕ). l ++ []) (no-turns (λ j. section_in n came (suc k + j)) (section_count n - suc k) (omega (arith, section-in-length k lt))))

  -- the first k sections with the two bytes behind each are the front of what came
  came-front : (k : ℕ) → k ≤ section_count n → in_turn (λ j. section_in n came j ++ sum_behind n came j) k ≡ take (min n (k * 4000) + 2 * k) came
  unfolding in_turn section_in sum_behind
  came-front zero le = ap (λ (m : ℕ). take m came) (let none : 0 ≡ min n (0 * 4000) + 2 * 0 = omega arith in none)
  came-front (suc k) le =
      ap (λ (l : List ℕ). l ++ (section_in n came k ++ sum_behind n came k))
      (came-front k (omega arith) ∙ ap (λ (m : ℕ). take m came) (let place : min n (k * 4000) + 2 * k ≡ k * 4002 = omega arith in place))
      ∙ take_next (k * 4002) (size_of n k) 2 (min n (suc k * 4000) + 2 * suc k) came (omega arith)

  -- with right checksums it is what is sent of the data, and what follows
  pub sent_back : RightSums n came → came ≡ in_sections (joined n came) ++ drop (sent_length n) came
  unfolding in_sections sent_section
  sent_back right =
      sym (take-append-drop (sent_length n) came)
      ∙ ap (λ (l : List ℕ). l ++ drop (sent_length n) came)
      (ap (λ (m : ℕ). take m came) (let all : sent_length n ≡ min n (section_count n * 4000) + 2 * section_count n = omega arith in all)
      ∙ sym (came-front (section_count n) (omega arith))
      ∙ turns-alike (λ j. section_in n came j ++ sum_behind n came j) (sent_section (joined n came)) (section_count n)
      (λ k lt.
      let same = joined-section k lt in
      ap₂ ◌++◌ (sym same) (right k lt ∙ ap checksum_bytes (sym same)))
      ∙ ap (λ (m : ℕ). in_turn (sent_section (joined n came)) (section_count m)) (sym joined_length))
