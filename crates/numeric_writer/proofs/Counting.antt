-- How many base characters go for a character.
-- Assumes nothing.
use mathlib.Core.Path.{◌≡◌, refl, sym, ap, ap₂, subst⁻¹, ◌∙◌}
use mathlib.Core.Bool.{Bool, true, false, cond, not, ◌&&◌, ◌||◌}
use mathlib.Core.List.{List, []}
use Prim.Native.Nat.{ℕ, ◌<◌}
use lib.Dec.{T, eqb, eqb→eq}
use lib.ListN.{length}
use Rattle.bits.specs.First.{first}
use Rattle.bits.specs.Numbers.{numbers}
use Rattle.codes.specs.Chain.{Entry, codes}
use Rattle.codes.specs.LineEnds.{ended}
use Rattle.codes.specs.Lookup.{same, found, saying}
use Rattle.bits.proofs.Said.{and_left, and_right}
use Rattle.codes.proofs.ByteTests.{implied-below}
use Rattle.codes.proofs.EveryElement.{every}
use Rattle.codes.proofs.LineEnds.{ended_same}
use Rattle.numeric.specs.Table.{characters}
use Rattle.numeric.specs.Translation.{sent, itself, specials, translation}
use Rattle.numeric.specs.Writer.{own}
use Rattle.numeric_writer.specs.Steps.Sending.{stands, of_signs, codes_for}

-- ---- the base characters of one character

-- what goes for it depends on the one before only where the two are CR LF
pub own_same : (before c : ℕ) → (eqb before 13 && eqb c 10) ≡ false → own before c ≡ own 0 c
unfolding own
own_same before c e = ap (saying translation) (ended_same before c e)

pub own-nothing : (before c : ℕ) → (eqb before 13 && eqb c 10) ≡ true → own before c ≡ []
unfolding translation itself specials sent characters numbers ended saying same own first
own-nothing before c e =
    let both : T (eqb before 13 && eqb c 10) = subst⁻¹ T e tt in
    let nothing : own 13 10 ≡ [] = refl in
    ap₂ own (eqb→eq before 13 (and_left (eqb before 13) (eqb c 10) both)) (eqb→eq c 10 (and_right (eqb before 13) (eqb c 10) both)) ∙ nothing

pub counts-none : (before c : ℕ) → (eqb before 13 && eqb c 10) ≡ true → codes_for before c ≡ 0
unfolding codes
counts-none before c e = ap (λ (es : List Entry). length (codes es)) (own-nothing before c e)

abbrev counted : ℕ → Bool
counted c = eqb (codes_for 0 c) (cond (of_signs c || eqb c 58) 2 1)

all-counted : T (every (λ (c : ℕ). not (stands c) || counted c) (numbers 0 256))
unfolding translation itself specials sent characters numbers ended saying same found own codes every first
all-counted = tt

pub counts_some : (before c : ℕ) {signs two : Bool} → c < 256 → T (stands c) → (eqb before 13 && eqb c 10) ≡ false → signs ≡ of_signs c
    → (signs || eqb c 58) ≡ two → codes_for before c ≡ cond two 2 1
counts_some before c h s e o t =
    ap (λ (es : List Entry). length (codes es)) (own_same before c e)
    ∙ eqb→eq (codes_for 0 c) (cond (of_signs c || eqb c 58) 2 1) (implied-below 256 stands counted all-counted c h s)
    ∙ ap (λ (b : Bool). cond b 2 1) (ap (λ (b : Bool). b || eqb c 58) (sym o) ∙ t)
