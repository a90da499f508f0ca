-- The characters that have a code, and the kinds of character as ranges.
-- Assumes nothing.
use mathlib.Core.Path.{◌≡◌, refl, sym, ap, ap₂, subst⁻¹, ◌∙◌}
use mathlib.Core.Bool.{Bool, true, false, ◌&&◌}
use mathlib.Core.Logic.{by_cases}
use Prim.Native.Nat.{ℕ, ◌≤◌, ◌<◌}
use native.Mathlib.Decide.{dec_lt}
use native.Mathlib.Omega.{arith}
use lib.Dec.{T, leb, eqb}
use borrow.Author.Tests.{leb-true, eqb-true, eqb-false, ne_eqb, lt-leb, le-leb}
use Rattle.pseudo_binary.specs.Table.{SPACE, SLASH, Kind, values, spaces, slashes, is_of, coded}
use Rattle.pseudo_binary_writer.specs.Steps.Sending.{Between}

-- which characters have a code
pub space-coded : (c : ℕ) → c ≡ SPACE → true ≡ coded c
unfolding coded is_of
space-coded c e = ap coded (sym e)

pub slash-coded : (c : ℕ) → c ≡ SLASH → true ≡ coded c
unfolding coded is_of
slash-coded c e = ap coded (sym e)

pub value-coded : (c : ℕ) → 63 ≤ c → c < 128 → true ≡ coded c
unfolding coded is_of
value-coded c h k = sym (simp (le-leb 63 c h, le-leb c 127 (omega arith)))

pub low-uncoded : (c : ℕ) → (c ≡ SPACE → ⊥) → (c ≡ SLASH → ⊥) → c < 63 → false ≡ coded c
unfolding coded is_of
low-uncoded c a b h = sym (simp (lt-leb 63 c h, ne_eqb c SPACE a, ne_eqb c SLASH b))

and-false : (b : Bool) → (b && false) ≡ false
and-false true = refl
and-false false = refl

pub high-uncoded : (c : ℕ) → 128 ≤ c → false ≡ coded c
unfolding coded is_of
high-uncoded c h =
    sym (simp (lt-leb c 127 h, and-false (leb 63 c), ne_eqb c SPACE (omega arith), ne_eqb c SLASH (omega arith)))

-- and so they are below 128
pub coded-small : (c : ℕ) → T (coded c) → c < 128
coded-small c t = by_cases (dec_lt c 128) (λ h. h) (λ h. absurd (subst⁻¹ T (high-uncoded c (omega arith)) t))

-- the kinds of character as ranges
equal-between : (a c : ℕ) → eqb c a ≡ (leb a c && leb c a)
equal-between a c = pick (eqb c a) refl
  where
    pick : (b : Bool) → eqb c a ≡ b → b ≡ (leb a c && leb c a)
    pick true e =
        let same : c ≡ a = eqb-true c a e in
        sym (simp (le-leb a c (omega arith), le-leb c a (omega arith)))
    pick false e = apart (leb a c) refl (leb c a) refl
      where
        apart : (x : Bool) → leb a c ≡ x → (y : Bool) → leb c a ≡ y → false ≡ (x && y)
        apart false p y q = refl
        apart true p false q = refl
        apart true p true q = absurd (let none : ⊥ = omega (arith, leb-true a c p, leb-true c a q, eqb-false c a e) in none)

pub spaces-between : Between spaces SPACE SPACE
unfolding is_of
spaces-between c = equal-between SPACE c

pub slashes-between : Between slashes SLASH SLASH
unfolding is_of
slashes-between c = equal-between SLASH c

pub values-between : Between values 63 127
unfolding is_of
values-between c = refl

pub below : (k : Kind) (a b c : ℕ) → Between k a b → c < a → is_of k c ≡ false
below k a b c e h = e c ∙ ap (λ (x : Bool). x && leb c b) (lt-leb a c h)

pub above : (k : Kind) (a b c : ℕ) → Between k a b → b < c → is_of k c ≡ false
above k a b c e h = e c ∙ ap (λ (x : Bool). leb a c && x) (lt-leb c b h) ∙ and-false (leb a c)

-- where there is one character only
pub another : (k : Kind) (a c : ℕ) → Between k a a → (c ≡ a → ⊥) → is_of k c ≡ false
another k a c e h = by_cases (dec_lt c a) (below k a a c e) (λ l. above k a a c e (omega arith))

pub inside : (k : Kind) (a b c : ℕ) → Between k a b → a ≤ c → c ≤ b → is_of k c ≡ true
inside k a b c e h j = e c ∙ ap₂ (λ (x y : Bool). x && y) (le-leb a c h) (le-leb c b j)

-- a character that has a code is a value from the question mark on
pub high_value : (c : ℕ) → T (coded c) → 63 ≤ c → is_of values c ≡ true
high_value c t h = inside values 63 127 c values-between h (omega (arith, coded-small c t))
