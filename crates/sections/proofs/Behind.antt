-- What stands behind the last checksum changes nothing: the sections and their checksums are the same.
-- Assumes nothing.
use mathlib.Core.List.{List, ◌++◌}
use mathlib.Core.Path.{◌≡◌, sym, ap, ◌∙◌, subst₂}
use Prim.Native.Nat.{ℕ, ◌+◌, ◌*◌, ◌<◌, ◌≤◌}
use native.Mathlib.Omega.{arith}
use lib.ListN.{length, take, drop, length-drop}
use lib.Seq.{take-append-le, drop-append-le}
use Rattle.checksum.specs.Checksum.{checksum_bytes}
use Rattle.sections.specs.Sections.{section_count, sent_length, size_of, section_in, sum_behind, joined, RightSum, RightSums, FirstWrong}
use Rattle.sections.proofs.Turns.{turns-alike}

-- a row within the front
row-alike : (a w : ℕ) (came after : List ℕ) → a + w ≤ length came → take w (drop a (came ++ after)) ≡ take w (drop a came)
row-alike a w came after fits =
    ap (take w) (drop-append-le a came after (omega arith)) ∙ take-append-le w (drop a came) after (omega (arith, length-drop a came))

module _ (n : ℕ) (came after : List ℕ) (whole : sent_length n ≤ length came) where
  section-alike : (k : ℕ) → k < section_count n → section_in n (came ++ after) k ≡ section_in n came k
  unfolding section_in
  section-alike k lt = row-alike (k * 4002) (size_of n k) came after (omega arith)

  sum_alike : (k : ℕ) → k < section_count n → sum_behind n (came ++ after) k ≡ sum_behind n came k
  unfolding sum_behind
  sum_alike k lt = row-alike (k * 4002 + size_of n k) 2 came after (omega arith)

  pub joined-alike : joined n (came ++ after) ≡ joined n came
  unfolding joined
  joined-alike = turns-alike (section_in n (came ++ after)) (section_in n came) (section_count n) section-alike

  to : (k : ℕ) → k < section_count n → RightSum n came k → RightSum n (came ++ after) k
  to k lt = subst₂ (λ (s r : List ℕ). s ≡ checksum_bytes r) (sym (sum_alike k lt)) (sym (section-alike k lt))

  from : (k : ℕ) → k < section_count n → RightSum n (came ++ after) k → RightSum n came k
  from k lt = subst₂ (λ (s r : List ℕ). s ≡ checksum_bytes r) (sum_alike k lt) (section-alike k lt)

  pub sums-alike : RightSums n came → RightSums n (came ++ after)
  sums-alike right k lt = to k lt (right k lt)

  pub wrong-alike : (k : ℕ) → FirstWrong n came k → FirstWrong n (came ++ after) k
  wrong-alike k f =
      record {
        there = f.there;
        before = λ j lt. to j (omega (arith, f.there)) (f.before j lt);
        wrong = λ right. f.wrong (from k f.there right);
      }

  pub wrong-alone : (k : ℕ) → FirstWrong n (came ++ after) k → FirstWrong n came k
  wrong-alone k f =
      record {
        there = f.there;
        before = λ j lt. from j (omega (arith, f.there)) (f.before j lt);
        wrong = λ right. f.wrong (to k f.there right);
      }
