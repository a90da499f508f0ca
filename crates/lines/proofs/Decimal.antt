-- A number in decimal: its last digit is put behind what a tenth of it is; and how long numbers can be.
-- Assumes nothing.
use mathlib.Core.List.{List, [], ◌∷◌, ◌++◌}
use mathlib.Core.Logic.{by_cases}
use mathlib.Core.Path.{◌≡◌, refl, sym, ap, ◌∙◌}
use Prim.Native.Nat.{ℕ, zero, suc, ◌+◌, ◌*◌, ◌/◌, ◌%◌, ◌^◌, ◌≤◌, ◌<◌}
use native.Mathlib.Decide.{dec_lt}
use native.Mathlib.Nat.{pow-suc}
use native.Mathlib.Omega.{arith}
use borrow.Author.Tests.{lt-ltb, le-ltb}
use lib.ListN.{length, length-append}
use Rattle.lines.specs.Line.{digit, decimal_in, decimal, decimals, hexadecimal_digit, hexadecimal_in, hexadecimal, spaced}

-- ---- the two cases of the definition

small : (places n : ℕ) → n < 10 → decimal_in places n ≡ digit n ∷ []
unfolding decimal_in
small zero n h = refl
small (suc places) n h = rw (lt-ltb n 10 h)

large : (places n : ℕ) → 10 ≤ n → decimal_in (suc places) n ≡ decimal_in places (n / 10) ++ (digit (n % 10) ∷ [])
unfolding decimal_in
large places n h = rw (le-ltb n 10 h)

-- a place more than the number needs changes nothing
more : (places n : ℕ) → n < 10 ^ suc places → decimal_in (suc places) n ≡ decimal_in places n
more zero n h = small (suc zero) n h ∙ sym (small zero n h)
more (suc places) n h =
    by_cases (dec_lt n 10) (λ few. small (suc (suc places)) n few ∙ sym (small (suc places) n few))
    (λ f.
    let many : 10 ≤ n = omega arith in
    large (suc places) n many
    ∙ ap (λ (l : List ℕ). l ++ (digit (n % 10) ∷ [])) (more places (n / 10) (omega (arith, pow-suc 10 (suc places))))
    ∙ sym (large places n many))

-- ---- as the code goes

pub decimal-small : (n : ℕ) → n < 10 → decimal n ≡ digit n ∷ []
unfolding decimal
decimal-small = small 19

pub decimal-large : (n : ℕ) → n < 2 ^ 64 → 10 ≤ n → decimal n ≡ decimal (n / 10) ++ (digit (n % 10) ∷ [])
unfolding decimal
decimal-large n h many =
    large 18 n many ∙ ap (λ (l : List ℕ). l ++ (digit (n % 10) ∷ [])) (sym (more 18 (n / 10) (omega arith)))

-- ---- a digit of hexadecimal, by its two cases

pub hexadecimal-small : (d : ℕ) → d < 10 → digit d ≡ hexadecimal_digit d
unfolding hexadecimal_digit
hexadecimal-small d h = rw (lt-ltb d 10 h)

pub hexadecimal-large : (d : ℕ) → 10 ≤ d → 55 + d ≡ hexadecimal_digit d
unfolding hexadecimal_digit
hexadecimal-large d h = rw (le-ltb d 10 h)

-- ---- lengths

within : (places n : ℕ) → length (decimal_in places n) ≤ suc places
unfolding decimal_in
within zero n = omega arith
within (suc places) n =
    by_cases (dec_lt n 10) (λ few. omega (arith, ap length (small (suc places) n few)))
    (λ f.
    omega (
      arith,
      ap length (large places n (omega arith)),
      length-append (decimal_in places (n / 10)) (digit (n % 10) ∷ []),
      within places (n / 10),
    ))

-- at most a space and twenty digits each
pub spaced-within : (numbers : List ℕ) → length (spaced (decimals numbers)) ≤ 21 * length numbers
unfolding spaced decimals decimal
spaced-within [] = omega arith
spaced-within (n ∷ numbers) =
    omega (arith, length-append (32 ∷ decimal n) (spaced (decimals numbers)), within 19 n, spaced-within numbers)

pub hexadecimal-length : (n : ℕ) → length (hexadecimal n) ≡ 8
unfolding hexadecimal hexadecimal_in
hexadecimal-length n = refl
