-- All data of Compact Numeric has a text: that of its base characters, two to a byte. So none is malformed.
-- Assumes nothing.
use mathlib.Core.Path.{◌≡◌, refl, sym, ap, ap₂, subst, subst⁻¹, ◌∙◌}
use mathlib.Core.List.{List, [], ◌∷◌, ◌++◌, append_assoc, Memᴰ}
use Prim.Native.Nat.{ℕ, zero, suc, ◌*◌, ◌/◌, ◌%◌, ◌<◌}
use native.Mathlib.Nat.{zero-add}
use native.Mathlib.Omega.{arith}
use lib.ListN.{length, get_or}
use Rattle.bits.specs.Numbers.{numbers}
use Rattle.bits.specs.Row.{bits}
use Rattle.codes.specs.Chain as chain
use Rattle.codes.specs.Chain.{Malformed, Builds, count_in}
use Rattle.codes.specs.Consecutive.{code_for}
use Rattle.codes.specs.Pack.{low}
use Rattle.codes.proofs.BitsInBytes.{bits-cons}
use Rattle.codes.proofs.ConsecutiveCodes.{consecutive-in}
use Rattle.codes.proofs.Fill.{no-fill}
use Rattle.codes.proofs.LowBits.{low-add, low-mod}
use Rattle.codes.proofs.OneReading.{builds-end, one-text, never_both}
use Rattle.codes.proofs.SingleTable.{builds-one}
use Rattle.codes.proofs.SizeBounds.{few-codes, short-text}
use Rattle.numeric.specs.Table.{characters, table, scheme}
use Rattle.numeric.specs.Data.{Built}
use Rattle.numeric.specs.Translation.{translated}
use Rattle.numeric.specs.Steps.Text.{character, spelled, text_of}
use Rattle.numeric.proofs.Table.{laws, mutes, all-sized}
use Rattle.numeric.proofs.Translation.{AllBase, translated-back, translates}

-- the entry of a code
code_in : (n : ℕ) → n < 16 → chain.In (code_for 4 n (character n ∷ [])) table
unfolding table character characters numbers
code_in n l = subst (λ (k : ℕ). chain.In (code_for 4 k (character n ∷ [])) table) (zero-add n) (consecutive-in 4 0 characters n l)

pub character-in : (cs : List ℕ) (n : ℕ) → n < length cs → Memᴰ (get_or cs n 0) cs
character-in [] n l = absurd (let no : ⊥ = omega arith in no)
character-in (c ∷ cs) zero l = Memᴰ.head refl
character-in (c ∷ cs) (suc n) l = Memᴰ.tail (character-in cs n (omega arith))

-- a byte is two codes
byte-codes : (b : ℕ) (s : List ℕ) → bits (b ∷ s) ≡ low 4 (b / 16 % 16) ++ (low 4 (b % 16) ++ bits s)
byte-codes b s =
    bits-cons b s ∙ ap (λ (l : List ℕ). l ++ bits s) (low-add 4 4 b)
    ∙ append_assoc (low 4 (b / 16)) (low 4 b) (bits s)
    ∙ ap₂ (λ (x y : List ℕ). x ++ (y ++ bits s)) (sym (low-mod 4 0 (b / 16))) (sym (low-mod 4 0 b))

-- the data is a building of its base characters
pub spelled-built : (carried : List ℕ) → chain.Built scheme (spelled carried) carried
unfolding spelled bits code_for
spelled-built [] = builds-end scheme (no-fill 0)
spelled-built (b ∷ s) =
    subst⁻¹ (λ (l : List ℕ). Builds scheme 0 l (spelled (b ∷ s))) (byte-codes b s)
    (builds-one mutes 0 (code_in (b / 16 % 16) (omega arith)) (builds-one mutes 0 (code_in (b % 16) (omega arith)) (spelled-built s)))

-- two to a byte
pub length-spelled : (carried : List ℕ) → length (spelled carried) ≡ 2 * length carried
unfolding spelled
length-spelled [] = refl
length-spelled (b ∷ s) = omega (arith, length-spelled s)

spelled-base : (carried : List ℕ) → AllBase (spelled carried)
unfolding spelled character characters numbers
spelled-base [] = tt
spelled-base (b ∷ s) = (character-in characters (b / 16 % 16) (omega arith), (character-in characters (b % 16) (omega arith), spelled-base s))

-- and of its text
pub text-built : (carried : List ℕ) → Built (text_of carried) carried
unfolding text_of
text-built carried = record { base = spelled carried; translates = translates (spelled carried) (spelled-base carried); codes = spelled-built carried }

pub one-built : (t u carried : List ℕ) → Built t carried → Built u carried → t ≡ u
one-built t u carried p q =
    sym (translated-back p.base t p.translates) ∙ ap translated (one-text laws p.codes q.codes) ∙ translated-back q.base u q.translates

-- each base character is one code, so any building has as many
pub count-built : (t carried : List ℕ) (b : Built t carried) → count_in b.codes ≡ length (spelled carried)
count-built t carried b =
    omega (
      arith,
      length-spelled carried,
      few-codes scheme 4 1 all-sized carried b.codes,
      short-text scheme 4 1 all-sized carried b.codes,
      ap length (one-text laws b.codes (spelled-built carried)),
    )

pub never-malformed : (carried : List ℕ) (i : ℕ) → Malformed scheme carried i → ⊥
never-malformed carried i s = never_both laws (spelled-built carried) s
