-- There are 2^21 valid headers, one for each value of the information bits.
-- Assumes nothing.
use mathlib.Core.Path.{◌≡◌, sym, ap, ◌∙◌, subst}
use Prim.Native.Nat.{ℕ, ◌*◌, ◌/◌, ◌%◌, ◌^◌, ◌<◌}
use native.Mathlib.Nat.{mod-lt}
use native.Mathlib.Omega.{arith}
use lib.Pow.{pow_pos}
use Rattle.header.specs.Fields.{fields_in, header_of}
use Rattle.header.specs.Valid.{Valid, information_in}
use Rattle.header.proofs.Made.{information-in, made-valid, fields_fit, information-back, one-of-information}
use Rattle.noise.specs.HowMany.{HowMany}
use Rattle.noise.proofs.Counting.{below-count, same_count, image-count}

-- the header of these information bits: that of the fields in a word where they stand in their places
header_with : ℕ → ℕ
header_with information = header_of (fields_in (information * 2 ^ 10))

with-valid : (information : ℕ) → Valid (header_with information)
unfolding header_with
with-valid information = made-valid (fields_in (information * 2 ^ 10)) (fields_fit (information * 2 ^ 10))

with-information : (information : ℕ) → information < 2 ^ 21 → information_in (header_with information) ≡ information
unfolding header_with
with-information information small =
    information-back (information * 2 ^ 10)
    ∙ information-in (information * 2 ^ 10)
    ∙ (let stands : information * 2 ^ 10 / 2 ^ 10 % 2 ^ 21 ≡ information = omega arith in stands)

information-lt : (header : ℕ) → information_in header < 2 ^ 21
information-lt header = subst (λ (n : ℕ). n < 2 ^ 21) (sym (information-in header)) (mod-lt (header / 2 ^ 10) (pow_pos 21))

-- every valid header is the one of its information bits
with-back : (header : ℕ) → Valid header → header_with (information_in header) ≡ header
with-back header v =
    one-of-information (header_with (information_in header)) header (with-valid (information_in header)) v (with-information (information_in header) (information-lt header))

pub valid-count : HowMany Valid (2 ^ 21)
valid-count =
    same_count (λ header s. subst Valid s.2 (with-valid s.0)) (λ header v. (information_in header, information-lt header, with-back header v))
    (image-count header_with (λ x y hx hy e. sym (with-information x hx) ∙ ap information_in e ∙ with-information y hy) (below-count (2 ^ 21)))
