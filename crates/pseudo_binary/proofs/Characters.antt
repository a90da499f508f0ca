-- The kinds of character: a character that has a code is of one kind, and one of kind values comes back as the character of its value. What a character
-- comes back as is of its kind and has its value.
-- Assumes nothing.
use mathlib.Core.Path.{◌≡◌, refl, ap, subst, subst⁻¹, ◌∙◌}
use mathlib.Core.Bool.{Bool, true, false, cond, ◌&&◌, ◌||◌}
use mathlib.Core.List.{List, [], ◌∷◌}
use Prim.Native.Nat.{ℕ, zero, suc, ◌+◌, ◌%◌, ◌≤◌, ◌<◌}
use native.Mathlib.Omega.{arith}
use lib.Dec.{T, leb, eqb, leb→le}
use lib.ListN.{replicate}
use borrow.Author.Tests.{eqb-true, eqb-false, ne_eqb, le-leb}
use Rattle.bits.proofs.Said.{and_left, and_right}
use Rattle.pseudo_binary.specs.Table.{SPACE, SLASH, QUESTION_MARK, Kind, values, spaces, slashes, is_of, coded, value_of, character_of}
use Rattle.pseudo_binary.specs.Writer.{kind, back_as, Alike}

-- the text is empty or begins with another kind
abbrev pub Other : Kind → List ℕ → Type 0
Other k [] = Unit {0}
Other k (c ∷ t) = is_of k c ≡ false

pub alike-replicate : (k : Kind) (c n : ℕ) → is_of k c ≡ true → Alike k (replicate n c)
alike-replicate k c zero e = tt
alike-replicate k c (suc n) e = (e, alike-replicate k c n e)

pub value-range : (c : ℕ) → is_of values c ≡ true → (63 ≤ c) × (c ≤ 127)
unfolding is_of
value-range c x =
    let t : T (leb 63 c && leb c 127) = subst⁻¹ T x tt in
    (leb→le 63 c (and_left (leb 63 c) (leb c 127) t), leb→le c 127 (and_right (leb 63 c) (leb c 127) t))

pub of-kind : (k : Kind) (c : ℕ) → is_of k c ≡ true → kind c ≡ k
unfolding kind is_of
of-kind values c x =
    let r : (63 ≤ c) × (c ≤ 127) = value-range c x in
    simp (ne_eqb c SPACE (omega arith), ne_eqb c SLASH (omega arith))
of-kind spaces c x = ap kind (eqb-true c SPACE x)
of-kind slashes c x = ap kind (eqb-true c SLASH x)

pub kind-of : (k : Kind) (c : ℕ) → T (coded c) → kind c ≡ k → is_of k c ≡ true
unfolding kind coded
kind-of k c t e = subst (λ (j : Kind). is_of j c ≡ true) e (pick (is_of values c) (is_of spaces c) (is_of slashes c) refl refl refl t)
  where
    pick : (v a b : Bool) → is_of values c ≡ v → is_of spaces c ≡ a → is_of slashes c ≡ b → T (v || (a || b))
        → is_of (cond a spaces (cond b slashes values)) c ≡ true
    pick v true b w x y u = x
    pick v false true w x y u = y
    pick true false false w x y u = w
    pick false false false w x y u = absurd u

pub value_of-small : (c : ℕ) → value_of c < 64
unfolding value_of
value_of-small c = omega arith

-- the character of a value, in one formula: the values and their characters turn round together at 63
pub character_of-turned : (v : ℕ) → v < 64 → character_of v ≡ 63 + (v + 1) % 64
unfolding character_of
character_of-turned v h = pick (eqb v 63) refl
  where
    pick : (b : Bool) → eqb v 63 ≡ b → cond b QUESTION_MARK (64 + v) ≡ 63 + (v + 1) % 64
    pick true e = let last : v ≡ 63 = eqb-true v 63 e in omega arith
    pick false e = let less : v < 63 = omega (arith, eqb-false v 63 e) in omega arith

pub character_of-value : (v : ℕ) → v < 64 → is_of values (character_of v) ≡ true
unfolding is_of
character_of-value v h =
    let e : character_of v ≡ 63 + (v + 1) % 64 = character_of-turned v h in
    simp (le-leb 63 (character_of v) (omega arith), le-leb (character_of v) 127 (omega arith))

pub character_of-value_of : (v : ℕ) → v < 64 → value_of (character_of v) ≡ v
unfolding value_of
character_of-value_of v h = let e : character_of v ≡ 63 + (v + 1) % 64 = character_of-turned v h in omega arith

-- a character comes back as the one of its value
pub value_of-back : (c : ℕ) → is_of values c ≡ true → character_of (value_of c) ≡ back_as c
unfolding value_of back_as
value_of-back c x = character_of-turned (c % 64) (omega arith) ∙ pick (eqb c 127) refl
  where
    pick : (b : Bool) → eqb c 127 ≡ b → 63 + (c % 64 + 1) % 64 ≡ cond b QUESTION_MARK c
    pick true e = let last : c ≡ 127 = eqb-true c 127 e in omega arith
    pick false e =
        let r : (63 ≤ c) × (c ≤ 127) = value-range c x in
        let less : c < 127 = omega (arith, eqb-false c 127 e) in
        omega arith

-- what a character comes back as is of the same kind and has the same value
back_is : (P : ℕ → ℕ → Type 0) → P QUESTION_MARK 127 → ((c : ℕ) → P c c) → (c : ℕ) → P (back_as c) c
unfolding back_as
back_is P last same c = pick (eqb c 127) refl
  where
    pick : (b : Bool) → eqb c 127 ≡ b → P (cond b QUESTION_MARK c) c
    pick true e = subst⁻¹ (P QUESTION_MARK) (eqb-true c 127 e) last
    pick false e = same c

both_of : (k : Kind) → is_of k QUESTION_MARK ≡ is_of k 127
unfolding is_of
both_of values = refl
both_of spaces = refl
both_of slashes = refl

pub is_of-back : (k : Kind) (c : ℕ) → is_of k (back_as c) ≡ is_of k c
is_of-back k = back_is (λ (b c : ℕ). is_of k b ≡ is_of k c) (both_of k) (λ c. refl)

pub value_of-same : (c : ℕ) → value_of (back_as c) ≡ value_of c
unfolding value_of
value_of-same = back_is (λ (b c : ℕ). b % 64 ≡ c % 64) refl (λ c. refl)
