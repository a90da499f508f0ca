-- The entries of bytes: their parts, and what the tests of them say.
-- Assumes nothing.
use mathlib.Core.Bool.{Bool, true, false}
use mathlib.Core.List.{List, ◌∷◌}
use mathlib.Core.Path.{◌≡◌, sym, ap, ap₂, subst⁻¹, ◌∙◌}
use Prim.Native.Nat.{ℕ, ◌+◌, ◌*◌, ◌/◌, ◌%◌, ◌^◌, ◌<◌}
use native.Mathlib.Omega.{arith}
use lib.Bits.{bit_and, and_block, and_mask, and_comm}
use lib.Dec.{eqb, ltb, ltb→lt}
use lib.ListN.{length, get_or, drop}
use Rattle.bits.specs.Numbers.{numbers}
use Rattle.bits.proofs.Numbers.{numbers-in, map-numbers}
use Rattle.codes.proofs.EveryElement.{every, every-at}
use Rattle.numeric.specs.Steps.Text.{character, spelled}
use Rattle.numeric.specs.Table.{characters}
use Rattle.numeric_reader.specs.Steps.Signs.{sign_if, sign, meet, one, entry_for, entry_of, entries, first_of, second_of, Entry}
use Rattle.numeric_reader.proofs.Pairs.{meet-not, meet-so, one-small, one_none, one-some}
use Rattle.numeric_reader.proofs.Reading.{spelled-byte}

-- a sign is below 8
pub sign_small : (c : ℕ) → sign c < 8
unfolding sign sign_if
sign_small c = small (eqb 43 c) (eqb 45 c) (eqb 46 c)
  where
    small : (p m s : Bool) → sign_if p m s < 8
    small true m s = omega arith
    small false true s = omega arith
    small false false true = omega arith
    small false false false = omega arith

-- the parts of an entry
module _ (entry : ℕ) (is : Entry entry) where
  pub entry_first : entry % 8 ≡ sign (first_of entry)
  unfolding entry_for
  entry_first = omega (arith, is, sign_small (first_of entry))

  pub entry-second : entry / 256 % 8 ≡ sign (second_of entry)
  unfolding entry_for
  entry-second =
      omega (arith, is, sign_small (first_of entry), one-small (meet (first_of entry) (second_of entry)), sign_small (second_of entry))

  pub entry-held : entry / 256 % 256 / 8 ≡ 1
  unfolding entry_for
  entry-held =
      omega (arith, is, sign_small (first_of entry), one-small (meet (first_of entry) (second_of entry)), sign_small (second_of entry))

  pub entry-meet : entry / 8 % 2 ≡ one (meet (first_of entry) (second_of entry))
  unfolding entry_for
  entry-meet = omega (arith, is, sign_small (first_of entry), one-small (meet (first_of entry) (second_of entry)))

-- the entry of two characters is one, and has them
module _ {entry : ℕ} (c d : ℕ) (small : c < 256) (e : entry ≡ entry_for c d) where
  pub entry-character : first_of entry ≡ c
  unfolding entry_for
  entry-character = omega (arith, sign_small c, one-small (meet c d), sign_small d)

  pub entry_other : second_of entry ≡ d
  unfolding entry_for
  entry_other = omega (arith, sign_small c, one-small (meet c d), sign_small d)

  pub entry-is : Entry entry
  entry-is = e ∙ ap₂ entry_for (sym entry-character) (sym entry_other)

-- ---- the tests: a sign is held with an 8

module _ (before : ℕ) (held : before / 8 ≡ 1) where
  -- with another sign
  pub common : (own : ℕ) → own < 8 → bit_and before own ≡ bit_and (before % 8) own
  common own h =
      ap₂ bit_and (let e : before ≡ 1 * 2 ^ 3 + before % 8 = omega arith in e) (let e : own ≡ 0 * 2 ^ 3 + own = omega arith in e)
      ∙ and_block 3 1 0 (before % 8) own (omega arith) (omega arith)
      ∙ (let e : bit_and 1 0 * 2 ^ 3 + bit_and (before % 8) own ≡ bit_and (before % 8) own = omega arith in e)

  -- with an entry
  common-entry : (entry : ℕ) → bit_and before entry ≡ entry / 8 % 2 * 8 + bit_and (before % 8) (entry % 8)
  common-entry entry =
      ap₂ bit_and (let e : before ≡ 1 * 2 ^ 3 + before % 8 = omega arith in e) (let e : entry ≡ entry / 8 * 2 ^ 3 + entry % 8 = omega arith in e)
      ∙ and_block 3 1 (entry / 8) (before % 8) (entry % 8) (omega arith) (omega arith)
      ∙ ap (λ (x : ℕ). x * 8 + bit_and (before % 8) (entry % 8)) (and_comm 1 (entry / 8) ∙ and_mask (entry / 8) 1)

  module _ (entry : ℕ) (is : Entry entry) where
    module _ (tested : bit_and before entry ≡ 0) where
      pub apart-before : bit_and (before % 8) (sign (first_of entry)) ≡ 0
      apart-before = ap (bit_and (before % 8)) (sym (entry_first entry is)) ∙ (let e : bit_and (before % 8) (entry % 8) ≡ 0 = omega (arith, common-entry entry) in e)

      pub apart-within : bit_and (sign (first_of entry)) (sign (second_of entry)) ≡ 0
      apart-within = meet-not (first_of entry) (second_of entry)
          (one_none (meet (first_of entry) (second_of entry)) (omega (arith, common-entry entry, entry-meet entry is)))

    -- the first makes no pair with the one before it, and so makes one with the second
    pub pair-within : (bit_and before entry ≡ 0 → ⊥) → bit_and before (entry % 8) ≡ 0 → bit_and (sign (first_of entry)) (sign (second_of entry)) ≡ 0 → ⊥
    pair-within some none =
        meet-so (first_of entry) (second_of entry)
        (one-some (meet (first_of entry) (second_of entry))
        (omega (
          arith,
          common-entry entry,
          common (entry % 8) (omega arith),
          entry-meet entry is,
          one-small (meet (first_of entry) (second_of entry)),
          some,
        )))

-- ---- the table

small : (code : ℕ) → code < 16 → character code < 256
unfolding character characters numbers every
small code h =
    ltb→lt (character code) 256 (every-at (λ k. ltb (character k) 256) (numbers 0 16) tt code (numbers-in 0 16 code (omega arith) (omega arith)))

module _ (b : ℕ) (byte : b < 256) where
  pub looked-up : get_or entries b 0 ≡ entry_for (character (b / 16 % 16)) (character (b % 16))
  unfolding entries entry_of
  looked-up = map-numbers entry_of 0 256 b byte ∙ ap entry_of (let e : 0 + b ≡ b = omega arith in e)

  pub looked-entry : Entry (get_or entries b 0)
  looked-entry = entry-is (character (b / 16 % 16)) (character (b % 16)) (small (b / 16 % 16) (omega arith)) looked-up

-- so too of what was looked up
pub entry-told : (b : ℕ) → b < 256 → {entry : ℕ} → entry ≡ get_or entries b 0 → Entry entry
entry-told b byte told = subst⁻¹ Entry told (looked-entry b byte)

-- what is still to be read begins with the characters of the byte's entry
pub spelled-entry : (s : List ℕ) (i : ℕ) → i < length s → get_or s i 0 < 256 → {entry : ℕ} → entry ≡ get_or entries (get_or s i 0) 0
    → spelled (drop i s) ≡ first_of entry ∷ second_of entry ∷ spelled (drop (i + 1) s)
spelled-entry s i h byte told =
    let b = get_or s i 0 in
    let first : character (b / 16 % 16) < 256 = small (b / 16 % 16) (omega arith) in
    spelled-byte s i h
    ∙ ap₂ (λ (x y : ℕ). x ∷ y ∷ spelled (drop (i + 1) s))
    (sym (entry-character (character (b / 16 % 16)) (character (b % 16)) first (told ∙ looked-up b byte)))
    (sym (entry_other (character (b / 16 % 16)) (character (b % 16)) first (told ∙ looked-up b byte)))
