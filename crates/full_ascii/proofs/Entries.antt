-- The entries of the table are the own codes of the characters that have one, and the pair code.
-- Assumes nothing.
use mathlib.Core.Path.{◌≡◌, refl, sym, ap, subst⁻¹, ◌∙◌}
use mathlib.Core.Bool.{Bool, true, false, cond, ◌&&◌, ◌||◌}
use mathlib.Core.Logic.{◌⊎◌, inl, inr, ⊎_elim, by_cases}
use mathlib.Core.List.Memᴰ
use mathlib.Core.List.{List, [], ◌∷◌, map}
use Prim.Native.Nat.{ℕ, ◌≤◌, ◌<◌}
use native.Mathlib.Decide.{dec_lt}
use native.Mathlib.Omega.{arith}
use lib.Dec.{T, leb, ltb, eqb, leb→le, eqb→eq}
use borrow.Author.Tests.{eqb-true, lt-ltb, le-ltb, le-leb, ne_eqb}
use Rattle.bits.specs.Numbers.{numbers}
use Rattle.bits.proofs.Numbers.{in-numbers, numbers-in}
use Rattle.codes.specs.Chain.{Entry, In}
use Rattle.bits.proofs.Said.{and_left, and_right}
use Rattle.full_ascii.specs.Table.{HT, LF, CR, six, seven, special, pair, table}
use Rattle.full_ascii.specs.Writer.{coded, own}

-- the kinds of character that have a code
pub data Kind (c : ℕ) : Type 0 where
  tab : c ≡ HT → Kind c
  feed : c ≡ LF → Kind c
  return : c ≡ CR → Kind c
  lower : 32 ≤ c → c < 64 → Kind c
  upper : 64 ≤ c → c < 127 → Kind c

either : (a b : Bool) → T (a || b) → T a ⊎ T b
either true b t = inl tt
either false b t = inr t

printed : (c : ℕ) → 32 ≤ c → c ≤ 126 → Kind c
printed c h k = by_cases (dec_lt c 64) (λ l. lower h l) (λ l. upper (omega arith) (omega arith))

pub kind : (c : ℕ) → T (coded c) → Kind c
unfolding coded
kind c t =
    let print : Bool = leb 32 c && leb c 126 in
    ⊎_elim (λ s. tab (eqb→eq c HT s))
    (λ u. ⊎_elim (λ s. feed (eqb→eq c LF s))
    (λ v. ⊎_elim (λ s. return (eqb→eq c CR s))
    (λ w. printed c (leb→le 32 c (and_left (leb 32 c) (leb c 126) w)) (leb→le c 126 (and_right (leb 32 c) (leb c 126) w)))
    (either (eqb c CR) print v))
    (either (eqb c LF) (eqb c CR || print) u))
    (either (eqb c HT) (eqb c LF || (eqb c CR || print)) t)

pub own-lower : (c : ℕ) → 32 ≤ c → c < 64 → own c ≡ six c
unfolding own
own-lower c h k =
    simp (ne_eqb c HT (omega arith), ne_eqb c LF (omega arith), ne_eqb c CR (omega arith), lt-ltb c 64 k)

pub own-upper : (c : ℕ) → 64 ≤ c → own c ≡ seven c
unfolding own
own-upper c h =
    simp (ne_eqb c HT (omega arith), ne_eqb c LF (omega arith), ne_eqb c CR (omega arith), le-ltb c 64 h)

pub printed-coded : (c : ℕ) → 32 ≤ c → c ≤ 126 → T (coded c)
unfolding coded
printed-coded c h k =
    simp (ne_eqb c HT (omega arith), ne_eqb c LF (omega arith), ne_eqb c CR (omega arith), le-leb 32 c h, le-leb c 126 k) tt

-- what stands behind the printed characters
controls : List Entry
controls = special 0 (HT ∷ []) ∷ special 1 (CR ∷ []) ∷ special 2 (LF ∷ []) ∷ pair ∷ []

in-controls : {e : Entry} → In e controls → In e table
unfolding table controls
in-controls h = Memᴰ.append_right (map six (numbers 32 32)) (Memᴰ.append_right (map seven (numbers 64 63)) h)

pub own_in : (c : ℕ) → T (coded c) → In (own c) table
unfolding table controls own
own_in c t = place (kind c t)
  where
    place : Kind c → In (own c) table
    place (tab e) = subst⁻¹ (λ (z : ℕ). In (own z) table) e (in-controls (Memᴰ.head refl))
    place (feed e) = subst⁻¹ (λ (z : ℕ). In (own z) table) e (in-controls (Memᴰ.tail (Memᴰ.tail (Memᴰ.head refl))))
    place (return e) = subst⁻¹ (λ (z : ℕ). In (own z) table) e (in-controls (Memᴰ.tail (Memᴰ.head refl)))
    place (lower h k) =
        Memᴰ.cast (own-lower c h k) (Memᴰ.append_left _ (Memᴰ.map six (numbers-in 32 32 c h k)))
    place (upper h k) =
        Memᴰ.cast (own-upper c h)
        (Memᴰ.append_right (map six (numbers 32 32)) (Memᴰ.append_left controls (Memᴰ.map seven (numbers-in 64 63 c h k))))

pub pair-in : In pair table
unfolding controls
pair-in = in-controls (Memᴰ.tail (Memᴰ.tail (Memᴰ.tail (Memᴰ.head refl))))

-- an entry is a character's own code, or the pair code
abbrev pub Sayer : Entry → Type 0
Sayer e = ((c : ℕ) × T (coded c) × (e ≡ own c)) ⊎ (e ≡ pair)

of-six : {e : Entry} → In e (map six (numbers 32 32)) → Sayer e
of-six h =
    let m = Memᴰ.of_map six (numbers 32 32) h in
    let r = in-numbers 32 32 m.0 m.1 in
    inl (m.0, printed-coded m.0 r.0 (omega arith), sym m.2 ∙ sym (own-lower m.0 r.0 r.1))

of-seven : {e : Entry} → In e (map seven (numbers 64 63)) → Sayer e
of-seven h =
    let m = Memᴰ.of_map seven (numbers 64 63) h in
    let r = in-numbers 64 63 m.0 m.1 in
    inl (m.0, printed-coded m.0 (omega arith) (omega arith), sym m.2 ∙ sym (own-upper m.0 r.0))

of-controls : {e : Entry} → In e controls → Sayer e
unfolding controls coded own
of-controls h =
    ⊎_elim (λ x. inl (HT, tt, x))
    (λ j. ⊎_elim (λ x. inl (CR, tt, x))
    (λ k. ⊎_elim (λ x. inl (LF, tt, x))
    (λ l. ⊎_elim (λ x. inr x) (λ n. absurd (Memᴰ.not-nil n)) (Memᴰ.cases_cons l))
    (Memᴰ.cases_cons k)) (Memᴰ.cases_cons j)) (Memᴰ.cases_cons h)

pub entry_of : (e : Entry) → In e table → Sayer e
unfolding table controls
entry_of e h =
    ⊎_elim of-six
    (λ j. ⊎_elim of-seven of-controls (Memᴰ.append_cases (map seven (numbers 64 63)) j))
    (Memᴰ.append_cases (map six (numbers 32 32)) h)

-- a character's own code says the character
test-says : (c x : ℕ) (d e : Entry) → d.says ≡ x ∷ [] → e.says ≡ c ∷ [] → (cond (eqb c x) d e).says ≡ c ∷ []
test-says c x d e p q = pick (eqb c x) refl
  where
    pick : (t : Bool) → eqb c x ≡ t → (cond t d e).says ≡ c ∷ []
    pick true h = p ∙ ap (λ (z : ℕ). z ∷ []) (sym (eqb-true c x h))
    pick false h = q

print-says : (t : Bool) (c : ℕ) → (cond t (six c) (seven c)).says ≡ c ∷ []
unfolding six seven
print-says true c = refl
print-says false c = refl

pub own-says : (c : ℕ) → (own c).says ≡ c ∷ []
unfolding own special
own-says c =
    test-says c HT _ _ refl (test-says c LF _ _ refl (test-says c CR _ _ refl (print-says (ltb c 64) c)))
