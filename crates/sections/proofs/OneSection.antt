-- Up to 4,000 data bytes are one section: the data, and the two bytes of its checksum.
-- Assumes nothing.
use mathlib.Core.List.{List, [], ◌∷◌, ◌++◌}
use mathlib.Core.Path.{◌≡◌, ap, ◌∙◌}
use Prim.Native.Nat.{ℕ, suc, ◌+◌, ◌*◌, ◌≤◌}
use native.Mathlib.Omega.{arith}
use lib.ListN.{length, take, drop, get_or}
use lib.Seq.{take_all, drop-cons}
use Rattle.checksum.specs.Checksum.{checksum_bytes}
use Rattle.sections.specs.Sections.{section_count, in_turn, section, sent_section, in_sections, size_of, section_in, sum_behind, joined}

-- two bytes from a place on
pub two_bytes : (l : List ℕ) (p : ℕ) → p + 2 ≤ length l → take 2 (drop p l) ≡ get_or l p 0 ∷ get_or l (p + 1) 0 ∷ []
two_bytes l p fits =
    ap (take 2)
    (drop-cons l p 0 (omega arith)
    ∙ ap (λ (r : List ℕ). get_or l p 0 ∷ r) (drop-cons l (suc p) 0 (omega arith)))
    ∙ ap (λ (i : ℕ). get_or l p 0 ∷ get_or l i 0 ∷ []) (let next : suc p ≡ p + 1 = omega arith in next)

-- ---- sent

module _ (carried : List ℕ) (some : 1 ≤ length carried) (few : length carried ≤ 4000) where
  pub only-section : section carried 0 ≡ carried
  unfolding section
  only-section = take_all 4000 carried few

  pub one-sent : in_sections carried ≡ carried ++ checksum_bytes carried
  unfolding in_sections in_turn sent_section
  one-sent =
      ap (in_turn (sent_section carried)) (let one : section_count (length carried) ≡ 1 = omega arith in one)
      ∙ ap (λ (l : List ℕ). l ++ checksum_bytes l) only-section

-- ---- received

module _ (n : ℕ) (came : List ℕ) (some : 1 ≤ n) (few : n ≤ 4000) where
  pub one-section : section_in n came 0 ≡ take n came
  unfolding section_in
  one-section = ap (λ (m : ℕ). take m came) (let all : size_of n 0 ≡ n = omega arith in all)

  pub one-joined : joined n came ≡ take n came
  unfolding joined in_turn
  one-joined = ap (in_turn (section_in n came)) (let one : section_count n ≡ 1 = omega arith in one) ∙ one-section

  pub one-sum : n + 2 ≤ length came → sum_behind n came 0 ≡ get_or came n 0 ∷ get_or came (n + 1) 0 ∷ []
  unfolding sum_behind
  one-sum fits = ap (λ (m : ℕ). take 2 (drop m came)) (let behind : 0 * 4002 + size_of n 0 ≡ n = omega arith in behind) ∙ two_bytes came n fits
