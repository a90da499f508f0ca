-- An indicator at a bit of the data, with the values that it announces: passed, or where the reading is stuck.
-- Assumes nothing.
use mathlib.Core.Path.{◌≡◌, refl, sym, ap, subst, subst₂, subst⁻¹, ◌∙◌}
use mathlib.Core.Logic.{by_cases}
use mathlib.Core.List.{List, ◌++◌, append_assoc, append-nil}
use Prim.Native.Nat.{ℕ, ◌+◌, ◌-◌, ◌*◌, ◌/◌, ◌%◌, ◌≤◌, ◌<◌}
use native.Mathlib.Decide.{dec_le}
use native.Mathlib.Nat.{zero-add}
use native.Mathlib.Omega.{arith}
use lib.ListN.{length, drop, replicate, length-drop, length-replicate}
use lib.Seq.{drop-drop}
use Rattle.bits.specs.Row.{bits}
use Rattle.codes.specs.Chain.{Fill, state_after}
use Rattle.codes.specs.Steps.Laid.{laid, Readable, Placed}
use Rattle.codes.specs.Steps.Measure.{StuckAfter}
use Rattle.codes.specs.Pack.{Binary}
use Rattle.codes.specs.Steps.Passed.{Passed, CountedSoFar, LaidSoFar}
use Rattle.codes.proofs.ReadSoFar.{counting_more, laying-more, laying-within, laying-end}
use Rattle.codes.proofs.BitsInBytes.{binary-drop, bits-binary, length-bits}
use Rattle.codes.proofs.PassedEntries.{passed-more, passed-stuck}
use Rattle.codes.proofs.OneReading.{stuck-here, never_both}
use Rattle.pseudo_binary.specs.Table.{scheme}
use Rattle.pseudo_binary_reader.specs.Steps.Taken.{Nine, FirstIndicator, characters_in, width_of, values_of, said_by, count_of, saying}
use Rattle.pseudo_binary_reader.specs.declared.Indicator.{Indicator}
use Rattle.pseudo_binary_reader.specs.declared.Indicator.TheVariants.{Values, Repeat}
use Rattle.pseudo_binary_reader.proofs.First.{next-indicator, no-indicator}
use Rattle.pseudo_binary.proofs.Table.{laws}
use Rattle.pseudo_binary_reader.proofs.Values.{length-characters, passed-values, stuck-values}

-- what was said up to bit `at` stands at the front of the buffer that was given, n characters
abbrev pub Stands : List ℕ → List ℕ → List ℕ → ℕ → ℕ → Type 0
Stands s entry out at n = (n ≤ length entry) × LaidSoFar scheme (bits s) (drop at (bits s)) entry out 0 n

-- how much follows a bit
pub length-left : (s : List ℕ) (at : ℕ) → length (drop at (bits s)) ≡ length s * 8 - at
length-left s at = length-drop at (bits s) ∙ ap (λ (n : ℕ). n - at) (length-bits s)

left-binary : (s : List ℕ) (at : ℕ) → Binary (drop at (bits s))
left-binary s at = binary-drop at (bits s) (bits-binary s)

-- what an indicator says itself, and then its values
saying-parts : (r : Indicator) (bs : List ℕ) → said_by r ++ characters_in (values_of r) bs ≡ saying r bs
unfolding characters_in
saying-parts (Values count) bs = refl
saying-parts (Repeat count character) bs = append-nil (replicate count character)

module _ (s : List ℕ) (at : ℕ) (inside : at ≤ length s * 8) (w : ℕ) (v : Nine (drop at (bits s)) w) (r : Indicator) (k : FirstIndicator w r) (said : List ℕ) (codes : ℕ) (p : Passed scheme (bits s) 0 (drop at (bits s)) said codes) where
  pub passed-indicator : width_of r ≤ length s * 8 - at
      → Passed scheme (bits s) (values_of r) (drop (at + width_of r) (bits s)) (said ++ said_by r) (codes + 1)
  unfolding state_after
  passed-indicator there =
      subst⁻¹ (λ (n : ℕ). Passed scheme (bits s) n (drop (at + width_of r) (bits s)) (said ++ said_by r) (codes + 1))
      (k.announces ∙ sym (zero-add k.entry.announces))
      (subst⁻¹ (λ (l : List ℕ). Passed scheme (bits s) (0 + k.entry.announces) (drop (at + width_of r) (bits s)) (said ++ l) (codes + 1)) k.says
      (passed-more (drop at (bits s)) (drop (at + width_of r) (bits s)) p k.entry k.legal
      (next-indicator (drop at (bits s)) (left-binary s at) w v r k (omega (arith, length-left s at))
      ∙ ap (λ (l : List ℕ). k.entry.code ++ l) (drop-drop (width_of r) at (bits s)))))

  -- with the values that it announces
  pub passed-run : width_of r + values_of r * 6 ≤ length s * 8 - at
      → Passed scheme (bits s) 0 (drop (at + (width_of r + values_of r * 6)) (bits s)) (said ++ saying r (drop (at + width_of r) (bits s))) (codes + (1 + values_of r))
  passed-run there =
      let rest : List ℕ = drop (at + width_of r) (bits s) in
      let all : Passed scheme (bits s) 0 (drop (6 * values_of r) rest) ((said ++ said_by r) ++ characters_in (values_of r) rest) (codes + 1 + values_of r) =
      passed-values (values_of r) rest (said ++ said_by r) (left-binary s (at + width_of r))
      (omega (arith, length-left s (at + width_of r))) (passed-indicator (omega arith)) in
      let more : codes + 1 + values_of r ≡ codes + (1 + values_of r) = omega arith in
      subst (λ (l : List ℕ). Passed scheme (bits s) 0 l (said ++ saying r (drop (at + width_of r) (bits s))) (codes + (1 + values_of r)))
      (drop-drop (6 * values_of r) (at + width_of r) (bits s)
      ∙ ap (λ (n : ℕ). drop n (bits s)) (let e : at + width_of r + 6 * values_of r ≡ at + (width_of r + values_of r * 6) = omega arith in e))
      (subst₂ (Passed scheme (bits s) 0 (drop (6 * values_of r) rest))
      (append_assoc said (said_by r) (characters_in (values_of r) rest) ∙ ap (λ (l : List ℕ). said ++ l) (saying-parts r rest)) more all)

  -- an indicator that lacks its bits
  pub stuck-indicator : length s * 8 - at < width_of r → (Fill 7 (drop at (bits s)) → ⊥) → {before : ℕ} → before ≡ codes → StuckAfter scheme 0 (bits s) at before
  unfolding stuck-here
  stuck-indicator short none {before} told =
      let is : codes + 0 ≡ before = omega arith in
      subst (StuckAfter scheme 0 (bits s) at) is
      (passed-stuck (drop at (bits s)) at 0 p (omega (arith, length-left s at, length-bits s))
      (stuck-here (no-indicator (drop at (bits s)) (left-binary s at) w v r k (omega (arith, length-left s at))) (λ e. none)))

  -- a value that lacks its bits, behind the indicator and the values before it
  pub stuck-value : (left : ℕ) → at + width_of r + left ≡ length s * 8 → left < values_of r * 6 → {place before : ℕ} → place + left % 6 ≡ length s * 8
      → before ≡ codes + (1 + left / 6) → StuckAfter scheme 0 (bits s) place before
  stuck-value left e short {place} {before} part told =
      let rest : List ℕ = drop (at + width_of r) (bits s) in
      let size : length rest ≡ left = omega (arith, length-left s (at + width_of r)) in
      let stuck = stuck-values (values_of r) rest (left-binary s (at + width_of r)) (omega arith) in
      let whole = passed-stuck rest place (length rest / 6 * 6) (passed-indicator (omega arith)) (omega (arith, length-bits s)) stuck.0 in
      (whole.0, omega (arith, whole.1, stuck.1, size))

pub length-saying : (r : Indicator) (bs : List ℕ) → length (saying r bs) ≡ count_of r
length-saying (Values count) bs = length-characters count bs
length-saying (Repeat count character) bs = length-replicate count character

pub counting-run : (s : List ℕ) (at : ℕ) → at ≤ length s * 8 → (w : ℕ) → Nine (drop at (bits s)) w → (r : Indicator) → FirstIndicator w r
    → (n codes : ℕ) → CountedSoFar scheme (bits s) (drop at (bits s)) n codes → width_of r + values_of r * 6 ≤ length s * 8 - at
    → {more : ℕ} → more ≡ codes + (1 + values_of r)
    → CountedSoFar scheme (bits s) (drop (at + (width_of r + values_of r * 6)) (bits s)) (n + count_of r) more
counting-run s at inside w v r k n codes c there e =
    let rest : List ℕ = drop (at + width_of r) (bits s) in
    subst⁻¹ (CountedSoFar scheme (bits s) (drop (at + (width_of r + values_of r * 6)) (bits s)) (n + count_of r)) e
    (counting_more c (saying r rest) (length-saying r rest) (passed-run s at inside w v r k c.said codes c.passed there))

-- an indicator whose bits and values are there, and room for what they say
pub record Whole (s : List ℕ) (at : ℕ) (r : Indicator) (entry out : List ℕ) (n : ℕ) : Type 0 where
  pub there : width_of r + values_of r * 6 ≤ length s * 8 - at
  pub room : n + count_of r ≤ length entry
  pub next : (exit : List ℕ) → exit ≡ laid out n (saying r (drop (at + width_of r) (bits s)))
      → LaidSoFar scheme (bits s) (drop (at + (width_of r + values_of r * 6)) (bits s)) entry exit 0 (n + count_of r)

-- so it is where the whole can be read and does not end here
module _ (s : List ℕ) (at : ℕ) (inside : at ≤ length s * 8) (w : ℕ) (v : Nine (drop at (bits s)) w) (r : Indicator) (k : FirstIndicator w r)
    (entry out : List ℕ) (n : ℕ) (y : LaidSoFar scheme (bits s) (drop at (bits s)) entry out 0 n) (f : Readable scheme (bits s) (length entry))
    (none : Fill 7 (drop at (bits s)) → ⊥) (fits : n ≤ length entry) where
  there : width_of r + values_of r * 6 ≤ length s * 8 - at
  there =
      by_cases (dec_le (width_of r) (length s * 8 - at))
      (λ l. by_cases (dec_le (values_of r * 6) (length s * 8 - at - width_of r)) (λ m. omega arith)
      (λ m. absurd (never_both laws f.reads
      (stuck-value s at inside w v r k y.said y.codes y.passed (length s * 8 - at - width_of r) (omega arith) (omega arith) {place = length s * 8 - (length s * 8 - at - width_of r) % 6} (omega arith) refl).0)))
      (λ l. absurd (never_both laws f.reads (stuck-indicator s at inside w v r k y.said y.codes y.passed (omega arith) none refl).0))

  laid-whole : LaidSoFar scheme (bits s) (drop (at + (width_of r + values_of r * 6)) (bits s)) entry
      (laid out n (saying r (drop (at + width_of r) (bits s)))) 0 (n + count_of r)
  laid-whole =
      let rest : List ℕ = drop (at + width_of r) (bits s) in
      laying-more y (saying r rest) (length-saying r rest) fits (passed-run s at inside w v r k y.said y.codes y.passed there)

  pub whole : Whole s at r entry out n
  whole = record {
    there = there;
    room = omega (arith, laying-within laid-whole laws f);
    next = λ exit e.
        subst⁻¹ (λ (l : List ℕ). LaidSoFar scheme (bits s) (drop (at + (width_of r + values_of r * 6)) (bits s)) entry l 0 (n + count_of r)) e
        laid-whole;
  }

-- the end of the reading, its number with what it must be, so that a wrong one is refused where it stands
pub laid_end : {bs rest entry out : List ℕ} {m n : ℕ} (r : ℕ) → r ≡ n → LaidSoFar scheme bs rest entry out m n → Fill 7 rest
    → Placed scheme bs entry out m r
laid_end {bs} {entry = entry} {out = out} {m = m} r e y f = subst⁻¹ (Placed scheme bs entry out m) e (laying-end y f)
