-- The data of a message in sections (document 001, 3, Figure 3, and 3.3): each but the last holds 4,000 bytes, none is empty, and behind each stand the two
-- bytes of its own checksum, worked out anew from the start value. Sections are counted from 0. Up to 4,000 bytes are one section.
-- Assumes nothing.
use Rattle.std.specs.Prelude.{List, [], ◌++◌, ◌≡◌, ℕ, zero, suc, ◌+◌, ◌-◌, ◌*◌, ◌/◌, ◌<◌, min, length, take, drop}
use Rattle.checksum.specs.Checksum.{checksum_bytes}

-- how many sections n data bytes are sent in: n / 4,000, rounded up
abbrev pub section_count : ℕ → ℕ
section_count n = (n + 3999) / 4000

-- how many bytes they take, with two for the checksum of each
abbrev pub sent_length : ℕ → ℕ
sent_length n = n + 2 * section_count n

-- the first so many of some rows, one after the other
unfoldable pub in_turn : (ℕ → List ℕ) → ℕ → List ℕ
in_turn row zero = []
in_turn row (suc k) = in_turn row k ++ row k

-- ---- data that is sent

-- section k of it
unfoldable pub section : List ℕ → ℕ → List ℕ
section carried k = take 4000 (drop (k * 4000) carried)

-- what is sent of section k: its bytes, and its checksum
unfoldable pub sent_section : List ℕ → ℕ → List ℕ
sent_section carried k = section carried k ++ checksum_bytes (section carried k)

-- what is sent: every section
unfoldable pub in_sections : List ℕ → List ℕ
in_sections carried = in_turn (sent_section carried) (section_count (length carried))

-- the same, but that something else came for section k and its checksum
unfoldable pub besides : List ℕ → ℕ → List ℕ → List ℕ
besides carried k came =
    in_turn (sent_section carried) k ++ (came ++ in_turn (λ j. sent_section carried (suc k + j)) (section_count (length carried) - suc k))

-- ---- bytes that came behind a header of n data bytes

-- section k has 4,000 of them, and the last what is left
abbrev pub size_of : ℕ → ℕ → ℕ
size_of n k = min 4000 (n - k * 4000)

-- section k: it starts behind those before it and their checksums
unfoldable pub section_in : ℕ → List ℕ → ℕ → List ℕ
section_in n came k = take (size_of n k) (drop (k * 4002) came)

-- the two bytes behind it
unfoldable pub sum_behind : ℕ → List ℕ → ℕ → List ℕ
sum_behind n came k = take 2 (drop (k * 4002 + size_of n k) came)

-- the data: the sections one after the other, without their checksums
unfoldable pub joined : ℕ → List ℕ → List ℕ
joined n came = in_turn (section_in n came) (section_count n)

-- the checksum of section k is that of its bytes
abbrev pub RightSum : ℕ → List ℕ → ℕ → Type 0
RightSum n came k = sum_behind n came k ≡ checksum_bytes (section_in n came k)

-- and so is that of every section
abbrev pub RightSums : ℕ → List ℕ → Type 0
RightSums n came = (k : ℕ) → k < section_count n → RightSum n came k

-- section k is the first whose checksum is not
pub record FirstWrong (n : ℕ) (came : List ℕ) (k : ℕ) : Type 0 where
  pub there : k < section_count n
  pub before : (j : ℕ) → j < k → RightSum n came j
  pub wrong : RightSum n came k → ⊥
