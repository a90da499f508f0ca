-- The difference as it is worked out by hand, and as the code works it out, are the same; and the table has the number of each bit.
-- Assumes nothing.
use mathlib.Core.List.{[], ◌∷◌}
use mathlib.Core.Logic.{◌⊎◌, inl, inr}
use mathlib.Core.Path.{◌≡◌, refl, sym, ap, ap₂, ◌∙◌}
use Prim.Native.Nat.{ℕ, zero, suc, ◌*◌, ◌/◌, ◌%◌, ◌^◌, ◌<◌}
use native.Mathlib.Nat.{mod-lt, mod-one, zero-mul, one-mul, add_comm}
use native.Mathlib.Numerals.{add-one}
use native.Mathlib.Omega.{arith}
use lib.Bits.{bit_xor, xor_shifted}
use lib.ListN.{get_or}
use lib.Pow.{pow_pos, mod-pow-add}
use Rattle.bits.specs.Word.{bit}
use Rattle.bits.proofs.Xor.{digit-of}
use Rattle.header.specs.Steps.Differences.{difference_in}
use Rattle.distance.specs.Steps.Left.{left}
use Rattle.distance.proofs.Left.{left-nothing, left-sum, left-difference}
use Rattle.repair.specs.Table.{entry_for, nothing, entries, number_of, by_hand}
use Rattle.repair.proofs.Told.{bits_named, one-named, bits-told}

-- what a digit at a place leaves: its number, or nothing
digit-leaves : (place digit : ℕ) → (digit ≡ 0) ⊎ (digit ≡ 1) → left (digit * 2 ^ place) ≡ digit * number_of place
unfolding number_of
digit-leaves place digit (inl e) =
    ap (λ (d : ℕ). left (d * 2 ^ place)) e ∙ ap left (zero-mul (2 ^ place)) ∙ left-nothing
    ∙ sym (ap (λ (d : ℕ). d * left (2 ^ place)) e ∙ zero-mul (left (2 ^ place)))
digit-leaves place digit (inr e) =
    ap (λ (d : ℕ). left (d * 2 ^ place)) e ∙ ap left (one-mul (2 ^ place))
    ∙ sym (ap (λ (d : ℕ). d * left (2 ^ place)) e ∙ one-mul (left (2 ^ place)))

-- the low bits leave the exclusive or of the numbers of their ones
low-leave : (places h : ℕ) → left (h % 2 ^ places) ≡ by_hand places h
unfolding by_hand bit
low-leave zero h = ap left (mod-one h) ∙ left-nothing
low-leave (suc place) h =
    ap left
    (ap (λ (n : ℕ). h % 2 ^ n) (sym (add-one place) ∙ add_comm place 1)
    ∙ mod-pow-add h 1 place
    ∙ sym (xor_shifted (h / 2 ^ place % 2 ^ 1) place (h % 2 ^ place) (mod-lt h (pow_pos place))))
    ∙ left-sum (h / 2 ^ place % 2 ^ 1 * 2 ^ place) (h % 2 ^ place)
    ∙ ap₂ bit_xor (digit-leaves place (h / 2 ^ place % 2) (digit-of (h / 2 ^ place))) (low-leave place h)

pub difference-by-hand : (h : ℕ) → by_hand 31 h ≡ difference_in h
difference-by-hand h = sym (low-leave 31 h) ∙ left-difference h

-- the difference whose entry names one bit alone is that bit's number
pub number-named : (place difference : ℕ) → place < 31 → difference < 2 ^ 10 → get_or entries difference 0 ≡ entry_for (place ∷ []) → number_of place ≡ difference
unfolding number_of entry_for nothing
number-named place difference below low e =
    ((bits-told difference low (get_or entries difference 0) refl (λ none. omega (arith, e, none))).account (2 ^ place) (sym (ap bits_named e ∙ one-named place below))).leaves
