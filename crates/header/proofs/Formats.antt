-- A header is of one format at most, so its type bits say one thing, and so does a format's number.
-- Assumes nothing.
use mathlib.Core.Path.{◌≡◌, refl, sym, ap, ◌∙◌}
use Prim.Native.Nat.{ℕ, zero, suc, ◌^◌, ◌<◌}
use native.Mathlib.Omega.{arith}
use Rattle.header.specs.declared.Format.{Format}
use Rattle.header.specs.declared.Format.TheVariants.{Open, PseudoBinary, Numeric, Shef, FullAscii}
use Rattle.header.specs.declared.Header.{Header}
use Rattle.std.specs.Prelude.{Some, None}
use Rattle.header.specs.Formats.{WhichFormat, format_number, FormatOfNumber, HasFormat, FormatInHeader}

-- no two formats have one number
format_from : ℕ → Format
format_from zero = Open
format_from (suc zero) = PseudoBinary
format_from (suc (suc zero)) = Numeric
format_from (suc (suc (suc zero))) = Shef
format_from (suc (suc (suc (suc n)))) = FullAscii

from-number : (format : Format) → format_from (format_number format) ≡ format
unfolding format_from
from-number Open = refl
from-number PseudoBinary = refl
from-number Numeric = refl
from-number Shef = refl
from-number FullAscii = refl

pub one_number : (a b : Format) → format_number a ≡ format_number b → a ≡ b
one_number a b e = sym (from-number a) ∙ ap format_from e ∙ from-number b

pub number_lt : (format : Format) → format_number format < 2 ^ 3
number_lt Open = omega arith
number_lt PseudoBinary = omega arith
number_lt Numeric = omega arith
number_lt Shef = omega arith
number_lt FullAscii = omega arith

pub one_format : {f : Header} {a b : Format} → HasFormat f a → HasFormat f b → a ≡ b
one_format {f} {a} {b} s t = one_number a b (sym s.extended_type ∙ t.extended_type)

pub one-which : (f : Header) (a b : WhichFormat) → FormatInHeader f a → FormatInHeader f b → a ≡ b
one-which f (Some a) (Some b) s t = ap Some (one_format s t)
one-which f (Some a) None s t = absurd (t a s)
one-which f None (Some b) s t = absurd (s b t)
one-which f None None s t = refl

pub one-of-number : (number : ℕ) (a b : WhichFormat) → FormatOfNumber number a → FormatOfNumber number b → a ≡ b
one-of-number number (Some a) (Some b) s t = ap Some (one_number a b (s ∙ sym t))
one-of-number number (Some a) None s t = absurd (t a s)
one-of-number number None (Some b) s t = absurd (s b t)
one-of-number number None None s t = refl
