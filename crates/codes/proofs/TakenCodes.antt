-- A code taken out of the bits of a number: what was read so far and what is laid with it, and where no code is left. It holds of every table whose
-- entries announce nothing.
-- Assumes nothing.
use mathlib.Core.Path.{◌≡◌, sym, ap, subst, subst₂, ◌∙◌}
use mathlib.Core.List.{List, [], ◌∷◌, ◌++◌}
use Prim.Native.Nat.{ℕ, ◌+◌, ◌-◌, ◌≤◌, ◌<◌}
use native.Mathlib.Omega.{arith}
use lib.Dec.{T}
use lib.ListN.{length, take, set, length-append}
use Rattle.codes.specs.Chain.{Entry, single}
use Rattle.codes.specs.Pack.{low}
use Rattle.codes.specs.Steps.BitBuffer.{Window}
use Rattle.codes.specs.Steps.Laid.{laid}
use Rattle.codes.specs.Steps.Passed.{Passed, CountedSoFar, LaidSoFar}
use Rattle.codes.specs.Steps.Taken.{FirstCode, characters_of}
use Rattle.codes.specs.Steps.Words.{Begun}
use Rattle.codes.specs.declared.Code.{Code}
use Rattle.codes.proofs.BitBuffer.{window-begins, begins-window}
use Rattle.codes.proofs.EveryElement.{every}
use Rattle.codes.proofs.LaidRows.{set-laid, set-laid-two}
use Rattle.codes.proofs.LowBits.{length-low}
use Rattle.codes.proofs.OneReading.{Halts}
use Rattle.codes.proofs.ReadSoFar.{counting_more, laying-more, laying-front, laying-within}
use Rattle.codes.proofs.SchemeLaws.{Laws}
use Rattle.codes.proofs.SingleTable.{mute, passed-one}

-- the characters of a code, stored one by one
pub put_one : (d : List ℕ) (n : ℕ) (c : Code) → c.count ≡ 1 → n + c.count ≤ length d → set d n c.first ≡ laid d n (characters_of c)
unfolding characters_of
put_one d n c e h =
    set-laid d n c.first (omega arith) ∙ ap (λ (k : ℕ). laid d n (take k (c.first ∷ c.second ∷ []))) (sym e)

pub put_two : (d : List ℕ) (n : ℕ) (c : Code) {second : ℕ} → c.count ≡ 2 → second ≡ c.second → n + c.count ≤ length d
    → set (set d n c.first) (n + 1) second ≡ laid d n (characters_of c)
unfolding characters_of
put_two d n c e f h =
    ap (set (set d n c.first) (n + 1)) f
    ∙ set-laid-two d n c.first c.second (omega arith)
    ∙ ap (λ (k : ℕ). laid d n (take k (c.first ∷ c.second ∷ []))) (sym e)

module _ {table : List Entry} (mutes : T (every mute table)) where
  -- the code of the window is the next to be read, if its bits are there
  passed-code : (bs said : List ℕ) {codes : ℕ} (held have w : ℕ) (r : Code) → Passed (single table 7) bs 0 (low have held) said codes
      → Window held have w → (k : FirstCode table w r) → r.width ≤ have
      → Passed (single table 7) bs 0 (low (have - r.width) held) (said ++ k.entry.says) (codes + 1)
  passed-code bs said held have w r p v k h =
      passed-one mutes 7 (low have held) (low (have - r.width) held) p k.entry k.legal
      (window-begins held have w k.entry.code v k.begins (subst (λ (n : ℕ). n ≤ have) k.width h)
      ∙ ap (λ (n : ℕ). k.entry.code ++ low (have - n) held) (sym k.width))

  pub counted-code : (bs : List ℕ) (held have w n codes : ℕ) (r : Code) {m j : ℕ} → CountedSoFar (single table 7) bs (low have held) n codes
      → Window held have w → FirstCode table w r → r.width ≤ have → n + r.count ≡ m → codes + 1 ≡ j
      → CountedSoFar (single table 7) bs (low (have - r.width) held) m j
  counted-code bs held have w n codes r c v k h e f =
      subst₂ (CountedSoFar (single table 7) bs (low (have - r.width) held)) e f
      (counting_more c k.entry.says k.counts (passed-code bs c.said held have w r c.passed v k h))

  pub laying-code : (bs entry out : List ℕ) (m n held have w : ℕ) (r : Code) → Window held have w → FirstCode table w r
      → LaidSoFar (single table 7) bs (low have held) entry out m n → r.width ≤ have → n ≤ length entry
      → LaidSoFar (single table 7) bs (low (have - r.width) held) entry (laid out n (characters_of r)) m (n + r.count)
  laying-code bs entry out m n held have w r v k y h room =
      subst (λ (l : List ℕ). LaidSoFar (single table 7) bs (low (have - r.width) held) entry (laid out n l) m (n + r.count)) k.says
      (laying-more y k.entry.says k.counts room (passed-code bs y.said held have w r y.passed v k h))

-- the codes of a number that begins a text: there is room for what they say
module _ {table : List Entry} (laws : Laws (single table 7)) (held have n : ℕ) (entry : List ℕ) (here : n ≤ length entry)
    (b : Begun (single table 7) held have (length entry - n)) where
  pub puts-room : {rest out : List ℕ} {m : ℕ} → LaidSoFar (single table 7) (low have held) rest entry out n m → m ≤ length entry
  puts-room y = omega (arith, laying-within (laying-front y b.0) laws b.1)

module _ {table : List Entry} (laws : Laws (single table 7)) where
  -- if the bits of the window's code are not there, no code begins what there is
  pub no_code : (held have w : ℕ) (r : Code) → Window held have w → FirstCode table w r → have < r.width → Halts (single table 7) 0 (low have held)
  no_code held have w r v k h e j b =
      let size : length e.code ≤ have = omega (arith, length-low have held, ap length b.1, length-append e.code b.0) in
      let same : e ≡ k.entry =
      laws.alone 0 e k.entry j k.legal (low 9 w)
      (begins-window held have w e.code v b (omega (arith, k.long))) k.begins in
      omega (arith, size, k.width, ap (λ (d : Entry). length d.code) same)
