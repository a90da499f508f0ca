-- What std prints of a number, in decimal and as eight digits of hexadecimal, is what `decimal` and `hexadecimal` say.
-- Assumes nothing.
use borrow.Author.Tests.{eq-eqb, ne_eqb}
use lib.Dec.{eqb}
use mathlib.Core.Bool.{Bool, true, false, cond}
use mathlib.Core.List.{List, [], ◌∷◌, ◌++◌, append_assoc, append-nil}
use mathlib.Core.Logic.{by_cases}
use mathlib.Core.Path.{◌≡◌, refl, sym, ap, ap₂, ◌∙◌}
use Prim.Native.Nat.{ℕ, zero, suc, ◌+◌, ◌-◌, ◌*◌, ◌/◌, ◌%◌, ◌^◌, ◌≤◌, ◌<◌}
use native.Mathlib.Decide.{dec_lt}
use native.Mathlib.Nat.{pow-suc, zero-div, div-div-eq-div-mul}
use native.Mathlib.Omega.{arith}
use lib.ListN.{length, length-append, replicate}
use Rattle.std.specs.Fmt.{digits, digits_onto, digit_glyph, char_count, format_spec, padded_integral, decimal as decimal_printed}
use Rattle.std.proofs.lemmas.Fmt.{decimal_by_steps}
use Rattle.std.proofs.lemmas.Nat.{pow-add}
use Rattle.lines.specs.Line.{digit, decimal, decimals, hexadecimal_digit, hexadecimal_in, hexadecimal, spaced, line}
use Rattle.lines.proofs.Decimal.{decimal-small, decimal-large}

pub decimal-shown : (n : ℕ) → n < 2 ^ 64 → decimal_printed n ≡ decimal n
decimal-shown n fits =
    decimal_by_steps (λ (m : ℕ) (row : List ℕ). m < 2 ^ 64 → row ≡ decimal m) (λ m few h. sym (decimal-small m few))
    (λ m row many front h. ap (λ (l : List ℕ). l ++ (digit (m % 10) ∷ [])) (front (omega arith)) ∙ sym (decimal-large m h many))
    n fits fits

-- ---- a line as it is printed: each field and what stands behind it

-- a space, a field, and so on, and the end of the line
abbrev pub ended : List (List ℕ) → List ℕ
ended [] = 10 ∷ []
ended (field ∷ fields) = 32 ∷ (field ++ ended fields)

ended-is : (fields : List (List ℕ)) → ended fields ≡ spaced fields ++ (10 ∷ [])
unfolding spaced
ended-is [] = refl
ended-is (field ∷ fields) =
    ap (λ (row : List ℕ). 32 ∷ (field ++ row)) (ended-is fields) ∙ sym (append_assoc (32 ∷ field) (spaced fields) (10 ∷ []))

pub line-shown : (word : List ℕ) (fields : List (List ℕ)) → word ++ ended fields ≡ line word fields
unfolding line
line-shown word fields = ap (λ (row : List ℕ). word ++ row) (ended-is fields)

abbrev pub one_printed : (word : List ℕ) (n : ℕ) → List ℕ
one_printed word n = word ++ ended (decimal_printed n ∷ [])

pub one-shown : (word : List ℕ) (n : ℕ) → n < 2 ^ 64 → one_printed word n ≡ line word (decimals (n ∷ []))
unfolding decimals
one-shown word n fits = ap (λ (row : List ℕ). word ++ ended (row ∷ [])) (decimal-shown n fits) ∙ line-shown word (decimal n ∷ [])

abbrev pub two_printed : (word : List ℕ) (n m : ℕ) → List ℕ
two_printed word n m = word ++ ended (decimal_printed n ∷ decimal_printed m ∷ [])

pub two-shown : (word : List ℕ) (n m : ℕ) → n < 2 ^ 64 → m < 2 ^ 64 → two_printed word n m ≡ line word (decimals (n ∷ m ∷ []))
unfolding decimals
two-shown word n m fits fits' =
    ap₂ (λ (row row' : List ℕ). word ++ ended (row ∷ row' ∷ [])) (decimal-shown n fits) (decimal-shown m fits')
    ∙ line-shown word (decimal n ∷ decimal m ∷ [])

-- ---- hexadecimal

-- four bits fewer, and the last digit
last : (places n : ℕ) → hexadecimal_in (suc places) n ≡ hexadecimal_in places (n / 16) ++ (hexadecimal_digit (n % 16) ∷ [])
unfolding hexadecimal_in
last zero n = ap (λ (m : ℕ). hexadecimal_digit (m % 16) ∷ []) (let e : n / 2 ^ 0 ≡ n = omega arith in e)
last (suc places) n =
    ap₂ (λ (m : ℕ) (row : List ℕ). hexadecimal_digit (m % 16) ∷ row)
    (ap (λ (k : ℕ). n / k) (ap (λ (k : ℕ). 2 ^ k) (let e : 4 * suc places ≡ 4 + 4 * places = omega arith in e) ∙ pow-add 2 4 (4 * places))
    ∙ sym (div-div-eq-div-mul n 16 (2 ^ (4 * places))))
    (last places n)

none : (places : ℕ) → hexadecimal_in places 0 ≡ replicate places 48
unfolding hexadecimal_in hexadecimal_digit
none zero = refl
none (suc places) = ap₂ (λ (m : ℕ) (row : List ℕ). hexadecimal_digit (m % 16) ∷ row) (zero-div (2 ^ (4 * places))) (none places)

-- the digits of a number in front of others, which filled with zeros are so many places
record Spelled (places n : ℕ) (behind whole : List ℕ) : Type 0 where
  front : List ℕ
  is : whole ≡ front ++ behind
  filled : replicate (places - length front) 48 ++ front ≡ hexadecimal_in places n

module _ (k n : ℕ) (behind : List ℕ) where
  abbrev low : ℕ
  low = digit_glyph true (n % 16)

  -- the digits end where there is nothing more in front
  turn : (t : Bool) → eqb (n / 16) 0 ≡ t → digits_onto (suc k) 16 true n behind ≡ cond t (low ∷ behind) (digits_onto k 16 true (n / 16) (low ∷ behind))
  turn t = ap (λ (b : Bool). cond b (low ∷ behind) (digits_onto k 16 true (n / 16) (low ∷ behind)))

  one : (places : ℕ) → n / 16 ≡ 0 → Spelled (suc places) n behind (digits_onto (suc k) 16 true n behind)
  unfolding hexadecimal_digit
  one places e =
      record {
        front = hexadecimal_digit (n % 16) ∷ [];
        is = turn true (eq-eqb (n / 16) 0 e);
        filled =
            ap (λ (j : ℕ). replicate j 48 ++ (hexadecimal_digit (n % 16) ∷ [])) (let f : suc places - 1 ≡ places = omega arith in f)
            ∙ ap (λ (row : List ℕ). row ++ (hexadecimal_digit (n % 16) ∷ [])) (sym (none places) ∙ ap (hexadecimal_in places) (sym e))
            ∙ sym (last places n);
      }

  more : (places : ℕ) → (n / 16 ≡ 0 → ⊥) → Spelled places (n / 16) (low ∷ behind) (digits_onto k 16 true (n / 16) (low ∷ behind))
      → Spelled (suc places) n behind (digits_onto (suc k) 16 true n behind)
  unfolding hexadecimal_digit
  more places some rest =
      let digit = hexadecimal_digit (n % 16) in
      record {
        front = rest.front ++ (digit ∷ []);
        is = turn false (ne_eqb (n / 16) 0 some) ∙ rest.is ∙ sym (append_assoc rest.front (digit ∷ []) behind);
        filled =
            ap (λ (j : ℕ). replicate j 48 ++ (rest.front ++ (digit ∷ [])))
            (let e : suc places - length (rest.front ++ (digit ∷ [])) ≡ places - length rest.front = omega (arith, length-append rest.front (digit ∷ [])) in e)
            ∙ sym (append_assoc (replicate (places - length rest.front) 48) rest.front (digit ∷ []))
            ∙ ap (λ (row : List ℕ). row ++ (digit ∷ [])) rest.filled
            ∙ sym (last places n);
      }

spelled : (places k n : ℕ) (behind : List ℕ) → n < 16 ^ suc places → places ≤ k → Spelled (suc places) n behind (digits_onto (suc k) 16 true n behind)
spelled zero k n behind h enough = one k n behind zero (omega arith)
spelled (suc places) zero n behind h enough = absurd (omega arith)
spelled (suc places) (suc k) n behind h enough =
    by_cases (dec_lt (n / 16) 1) (λ few. one (suc k) n behind (suc places) (omega arith))
    (λ some.
    more (suc k) n behind (suc places) (λ e. some (omega arith))
    (spelled places k (n / 16) (digit_glyph true (n % 16) ∷ behind) (omega (arith, pow-suc 16 (suc places))) (omega arith)))

-- what a width of eight with zeros in front makes of digits
padded : (row : List ℕ) → padded_integral (format_spec 32 0 4 8 (2 ^ 64 - 1)) false [] row ≡ replicate (8 - length row) 48 ++ row
unfolding padded_integral char_count
padded row =
    ap₂ (λ (j : ℕ) (l : List ℕ). replicate j 48 ++ l) (let e : 8 - length row - 0 - 0 ≡ 8 - length row = omega arith in e) (append-nil row)

pub hexadecimal-shown : (n : ℕ) → n < 2 ^ 32
    → padded_integral (format_spec 32 0 4 8 (2 ^ 64 - 1)) false [] (digits 16 true n) ≡ hexadecimal n
unfolding digits hexadecimal
hexadecimal-shown n fits =
    let s = spelled 7 63 n [] (omega arith) (omega arith) in
    padded (digits 16 true n)
    ∙ ap (λ (row : List ℕ). replicate (8 - length row) 48 ++ row) (s.is ∙ append-nil s.front)
    ∙ s.filled
