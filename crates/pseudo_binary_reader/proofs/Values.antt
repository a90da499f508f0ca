-- Announced values: any six bits are one, and where they are too few the reading is stuck at the first that lacks its bits.
-- Assumes nothing.
use mathlib.Core.Path.{◌≡◌, refl, sym, ap, subst, subst₂, subst⁻¹, ◌∙◌}
use mathlib.Core.Logic.{by_cases}
use mathlib.Core.List.{List, [], ◌∷◌, ◌++◌, append_assoc, append-nil}
use Prim.Native.Nat.{ℕ, zero, suc, ◌+◌, ◌*◌, ◌/◌, ◌^◌, ◌≤◌, ◌<◌}
use native.Mathlib.Decide.{dec_lt}
use native.Mathlib.Omega.{arith}
use lib.ListN.{length, take, drop, length-append, length-drop, take-append-drop}
use lib.Seq.{length-take-le, drop-drop}
use Rattle.codes.specs.Chain.{Entry, In, Begins, state_after}
use Rattle.codes.specs.Pack.{Binary, low, value}
use Rattle.codes.specs.Steps.Measure.{StuckAfter}
use Rattle.codes.specs.Steps.Passed.{Passed}
use Rattle.codes.proofs.LowBits.{length-low, low_value, value-lt}
use Rattle.codes.proofs.BitsInBytes.{binary-take, binary-drop}
use Rattle.codes.proofs.PassedEntries.{passed-more}
use Rattle.codes.proofs.OneReading.{stuck-more, stuck-here}
use Rattle.pseudo_binary.specs.Table.{character_of, six, tables, scheme}
use Rattle.pseudo_binary_reader.specs.Steps.Taken.{characters_in}
use Rattle.pseudo_binary.proofs.Entries.{six-in, six-of, after-six}

pub length-characters : (n : ℕ) (bs : List ℕ) → length (characters_in n bs) ≡ n
unfolding characters_in
length-characters zero bs = refl
length-characters (suc n) bs = ap suc (length-characters n (drop 6 bs))

-- the value that begins six bits or more
module _ (bs : List ℕ) (h : Binary bs) (k : 6 ≤ length bs) where
  first-value : ℕ
  first-value = value (take 6 bs)

  first_small : first-value < 64
  unfolding first-value
  first_small = subst (λ (n : ℕ). value (take 6 bs) < 2 ^ n) (length-take-le 6 bs k) (value-lt (take 6 bs) (binary-take 6 bs h))

  first_code : bs ≡ (six first-value).code ++ drop 6 bs
  unfolding first-value six
  first_code =
      sym (take-append-drop 6 bs)
      ∙ ap (λ (l : List ℕ). l ++ drop 6 bs)
      (sym (low_value (take 6 bs) (binary-take 6 bs h)) ∙ ap (λ (n : ℕ). low n (value (take 6 bs))) (length-take-le 6 bs k))

-- the values that were announced are passed
pub passed-values : {bs : List ℕ} {codes : ℕ} (m : ℕ) (rest said : List ℕ) → Binary rest → 6 * m ≤ length rest → Passed scheme bs m rest said codes
    → Passed scheme bs 0 (drop (6 * m) rest) (said ++ characters_in m rest) (codes + m)
unfolding characters_in six first-value
passed-values {bs} {codes} zero rest said h k p =
    let none : codes ≡ codes + 0 = omega arith in
    subst₂ (Passed scheme bs 0 rest) (sym (append-nil said)) none p
passed-values {bs} {codes} (suc m) rest said h k p =
    let v : ℕ = first-value rest h (omega arith) in
    let one : Passed scheme bs m (drop 6 rest) (said ++ (character_of v ∷ [])) (codes + 1) =
    subst (λ (n : ℕ). Passed scheme bs n (drop 6 rest) (said ++ (character_of v ∷ [])) (codes + 1)) (after-six m v)
    (passed-more rest (drop 6 rest) p (six v) (six-in m v (first_small rest h (omega arith))) (first_code rest h (omega arith))) in
    let more : codes + 1 + m ≡ codes + suc m = omega arith in
    subst (λ (l : List ℕ). Passed scheme bs 0 l (said ++ (character_of v ∷ characters_in m (drop 6 rest))) (codes + suc m))
    (drop-drop (6 * m) 6 rest ∙ ap (λ (n : ℕ). drop n rest) (let e : 6 + 6 * m ≡ 6 * suc m = omega arith in e))
    (subst₂ (Passed scheme bs 0 (drop (6 * m) (drop 6 rest))) (append_assoc said (character_of v ∷ []) (characters_in m (drop 6 rest))) more
    (passed-values {bs = bs} {codes = codes + 1} m (drop 6 rest) (said ++ (character_of v ∷ [])) (binary-drop 6 rest h) (omega (arith, length-drop 6 rest)) one))

-- fewer than six bits begin no value
no_value : (m : ℕ) (rest : List ℕ) → length rest < 6 → (e : Entry) → In e (tables (suc m)) → Begins e.code rest → ⊥
unfolding six
no_value m rest k e j b =
    let s = six-of m j in
    omega (
      arith,
      ap length b.1,
      length-append e.code b.0,
      ap (λ (d : Entry). length d.code) s.2,
      length-low 6 s.0,
    )

pub stuck-values : (m : ℕ) (rest : List ℕ) → Binary rest → length rest < 6 * m → StuckAfter scheme m rest (length rest / 6 * 6) (length rest / 6)
unfolding six stuck-here stuck-more
stuck-values zero rest h k = absurd (let none : ⊥ = omega arith in none)
stuck-values (suc m) rest h k =
    by_cases (dec_lt (length rest) 6)
    (λ l.
    let none : 0 ≡ length rest / 6 = omega arith in
    subst (λ (n : ℕ). StuckAfter scheme (suc m) rest (n * 6) n) none
    (stuck-here (no_value m rest l) (λ e. absurd (let no' : ⊥ = omega arith in no')), refl))
    (λ l.
    let enough : 6 ≤ length rest = omega arith in
    let v : ℕ = first-value rest h enough in
    let behind = length (drop 6 rest) / 6 in
    let ih : StuckAfter scheme (state_after (suc m) (six v)) (drop 6 rest) (behind * 6) behind =
    subst⁻¹ (λ (n : ℕ). StuckAfter scheme n (drop 6 rest) (behind * 6) behind) (after-six m v)
    (stuck-values m (drop 6 rest) (binary-drop 6 rest h) (omega (arith, length-drop 6 rest))) in
    let one : StuckAfter scheme (suc m) ((six v).code ++ drop 6 rest) (length (six v).code + behind * 6) (suc behind) =
    (stuck-more (six-in m v (first_small rest h enough)) ih.0, ap (λ (n : ℕ). suc n) ih.1) in
    let place : length (six v).code + behind * 6 ≡ length rest / 6 * 6 = omega (arith, length-low 6 v, length-drop 6 rest) in
    let before : suc behind ≡ length rest / 6 = omega (arith, length-drop 6 rest) in
    subst₂ (StuckAfter scheme (suc m) rest) place before
    (subst⁻¹ (λ (l : List ℕ). StuckAfter scheme (suc m) l (length (six v).code + behind * 6) (suc behind)) (first_code rest h enough) one))
