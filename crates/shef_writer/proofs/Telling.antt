-- Which characters have codes, and which, as the code tells it: computed tests over all characters.
-- Assumes nothing.
use mathlib.Core.Path.{◌≡◌, refl, ap, subst⁻¹, ◌∙◌}
use mathlib.Core.Bool.{Bool, true, false, cond, not, ◌&&◌, ◌||◌}
use mathlib.Core.List.{[]}
use Prim.Native.Nat.{ℕ, ◌+◌, ◌/◌, ◌%◌, ◌≤◌, ◌<◌}
use lib.Dec.{T, leb, eqb, eqb→eq, le→leb, lit≤}
use Rattle.bits.specs.First.{first}
use Rattle.bits.specs.Numbers.{numbers}
use Rattle.bits.specs.Word.{bit}
use Rattle.bits.proofs.Said.{and_left, and_right}
use Rattle.codes.specs.Chain.{codes}
use Rattle.codes.specs.Consecutive.{code_for, consecutive}
use Rattle.codes.specs.LineEnds.{ended}
use Rattle.codes.specs.Lookup.{same, found, saying}
use Rattle.codes.specs.Pack.{Binary, low, value}
use Rattle.codes.proofs.BitsInBytes.{binary}
use Rattle.codes.proofs.ByteTests.{same-below, implied-below}
use Rattle.codes.proofs.EveryElement.{every}
use Rattle.codes.proofs.FoundEntries.{saying-every, codes-binary}
use Rattle.codes.proofs.LineEnds.{ended_same}
use Rattle.numeric.specs.Table.{characters}
use Rattle.shef.specs.Table.{table}
use Rattle.shef.specs.Writer.{coded, own}
use Rattle.shef_writer.specs.Steps.Sending.{bits_for, entry_of}
use Rattle.shef_writer.proofs.Entries.{space_entry, hash_entry}

-- ---- whether a character has a code

abbrev coded_test : ℕ → Bool
coded_test c =
    (eqb c 13 || eqb c 10) || ((eqb c 32 || (eqb c 35 || eqb c 61)) || ((leb 43 c && leb c 59) || (leb 65 c && leb c 90)))

pub coded-told : (c : ℕ) → c < 256 → coded_test c ≡ coded c
unfolding table consecutive code_for characters numbers ended saying same found coded every first
coded-told = same-below 256 coded_test coded tt

-- ---- the number that is its code

abbrev number : ℕ → ℕ
number c = value (codes (own 0 c))

-- ---- its width

-- the code of a character that comes after another: none for LF right behind CR, and else what it has by itself
pub own-none : (before c : ℕ) → (eqb before 13 && eqb c 10) ≡ true → codes (own before c) ≡ []
unfolding table consecutive code_for characters numbers ended saying same own codes first
own-none before c e =
    let t : T (eqb before 13 && eqb c 10) = subst⁻¹ T e tt in
    subst⁻¹ (λ (b : ℕ). codes (own b c) ≡ []) (eqb→eq before 13 (and_left (eqb before 13) (eqb c 10) t))
    (subst⁻¹ (λ (x : ℕ). codes (own 13 x) ≡ []) (eqb→eq c 10 (and_right (eqb before 13) (eqb c 10) t)) refl)

pub own_same : (before c : ℕ) → (eqb before 13 && eqb c 10) ≡ false → own before c ≡ own 0 c
unfolding own
own_same before c e = ap (saying table) (ended_same before c e)

-- five bits, or six where the highest is 1
abbrev six_test : ℕ → Bool
six_test c = leb 58 c || (eqb c 35 || (eqb c 13 || eqb c 10))

abbrev wide_test : ℕ → Bool
wide_test c = eqb (bits_for 0 c) (5 + number c / 32) && eqb (bits_for 0 c) (cond (six_test c) 6 5)

width-test : (c : ℕ) → c < 256 → T (coded c) → T (wide_test c)
unfolding table consecutive code_for characters numbers low bit value ended saying same found coded own codes every first
width-test = implied-below 256 coded wide_test tt

either : (b : Bool) → cond b 6 5 ≤ 6
either true = lit≤ tt
either false = lit≤ tt

module _ (c : ℕ) (small : c < 256) (t : T (coded c)) where
  pub width-told : bits_for 0 c ≡ 5 + number c / 32
  width-told =
      eqb→eq (bits_for 0 c) (5 + number c / 32)
      (and_left (eqb (bits_for 0 c) (5 + number c / 32)) (eqb (bits_for 0 c) (cond (six_test c) 6 5)) (width-test c small t))

  pub bits-told : bits_for 0 c ≡ cond (six_test c) 6 5
  bits-told =
      eqb→eq (bits_for 0 c) (cond (six_test c) 6 5)
      (and_right (eqb (bits_for 0 c) (5 + number c / 32)) (eqb (bits_for 0 c) (cond (six_test c) 6 5)) (width-test c small t))

  pub bits-few : bits_for 0 c ≤ 6
  bits-few = subst⁻¹ (λ (n : ℕ). n ≤ 6) bits-told (either (six_test c))

-- ---- what it has

abbrev entry_test : ℕ → Bool
entry_test c = eqb (entry_of c % 64) (number c) && not (leb 64 (entry_of c) && eqb c 10)

entry-test : (c : ℕ) → c < 256 → T (coded c) → T (entry_test c)
unfolding table consecutive code_for characters numbers low bit value ended saying same found coded own codes every entry_of first
entry-test = implied-below 256 coded entry_test tt

and_no : (b : Bool) → (b && false) ≡ false
and_no true = refl
and_no false = refl

module _ (c : ℕ) (small : c < 256) (t : T (coded c)) where
  pub entry-number : entry_of c % 64 ≡ number c
  entry-number =
      eqb→eq (entry_of c % 64) (number c)
      (and_left (eqb (entry_of c % 64) (number c)) (not (leb 64 (entry_of c) && eqb c 10)) (entry-test c small t))

  -- 64 or more is no LF, so the character before does not count
  not-feed : (a b : Bool) → T (not (a && b)) → T a → b ≡ false
  not-feed true true x y = absurd x
  not-feed true false x y = refl
  not-feed false b x y = absurd y

  pub entry-own : (before : ℕ) → 64 ≤ entry_of c → (eqb before 13 && eqb c 10) ≡ false
  entry-own before h =
      ap (λ (b : Bool). eqb before 13 && b)
      (not-feed (leb 64 (entry_of c)) (eqb c 10)
      (and_right (eqb (entry_of c % 64) (number c)) (not (leb 64 (entry_of c) && eqb c 10)) (entry-test c small t)) (le→leb 64 (entry_of c) h))
      ∙ and_no (eqb before 13)

-- as the code picks it
abbrev picked : ℕ → ℕ
picked c =
    cond (eqb c 10) 58
    (cond (eqb c 13) 122
    (cond (eqb c 58 || eqb c 59) (c + 67) (cond (eqb c 61) 124 (cond (eqb c 35) hash_entry (cond (leb 65 c) (c + 31) (cond (eqb c 32) space_entry (64 + c % 16)))))))

picked-entry : (c : ℕ) → c < 256 → T (coded c) → picked c ≡ entry_of c
unfolding table consecutive code_for characters numbers low bit value ended saying same found coded own codes every entry_of first
picked-entry c h t = eqb→eq (picked c) (entry_of c) (implied-below 256 coded (λ (x : ℕ). eqb (picked x) (entry_of x)) tt c h t)

pub picks-entry : (c : ℕ) {base letter hash equals colon return last : ℕ} → c < 256 → T (coded c) → base ≡ cond (eqb c 32) space_entry (64 + c % 16)
    → letter ≡ cond (leb 65 c) (c + 31) base → hash ≡ cond (eqb c 35) hash_entry letter → equals ≡ cond (eqb c 61) 124 hash
    → colon ≡ cond (eqb c 58 || eqb c 59) (c + 67) equals → return ≡ cond (eqb c 13) 122 colon → last ≡ cond (eqb c 10) 58 return → last ≡ entry_of c
picks-entry c h t e₁ e₂ e₃ e₄ e₅ e₆ e₇ =
    let or : ℕ → ℕ → ℕ → ℕ = λ character entry. cond (eqb c character) entry in
    e₇
    ∙ ap (or 10 58)
    (e₆ ∙ ap (or 13 122) (e₅ ∙ ap (cond (eqb c 58 || eqb c 59) (c + 67)) (e₄ ∙ ap (or 61 124) (e₃ ∙ ap (or 35 hash_entry) (e₂ ∙ ap (cond (leb 65 c) (c + 31)) e₁)))))
    ∙ picked-entry c h t

-- codes are bits
pub own-binary : (before c : ℕ) → Binary (codes (own before c))
unfolding table consecutive code_for characters numbers low bit own every binary
own-binary before c = codes-binary (own before c) (saying-every binary table tt (ended before c))
