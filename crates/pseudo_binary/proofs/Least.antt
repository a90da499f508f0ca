-- No building of a text has fewer bits before its fill than our writer's.
-- Assumes nothing.
use mathlib.Core.Path.{◌≡◌, refl, ap, subst, subst⁻¹, ◌∙◌}
use mathlib.Core.Bool.{Bool, true, false}
use mathlib.Core.List.{List, [], ◌∷◌, ◌++◌}
use Prim.Native.Nat.{ℕ, zero, suc, pred, ◌+◌, ◌*◌, ◌≤◌, ◌<◌}
use native.Mathlib.Nat.{zero-add}
use native.Mathlib.Numerals.{unary_clauses}
use native.Mathlib.Omega.{arith}
use lib.ListN.{length, drop, replicate, length-replicate}
use lib.Seq.{drop_at}
use Rattle.codes.specs.Chain.{Entry, In, state_after, Row, codes, texts}
use Rattle.codes.specs.Pack.{low}
use Rattle.codes.proofs.LeastCost.{Cost, cost-shortest}
use Rattle.pseudo_binary.specs.Table.{SPACE, SLASH, Kind, values, spaces, slashes, is_of, character_of, indicator, most, six, tables, scheme}
use Rattle.pseudo_binary.specs.Writer.{our_most, ours, Alike}
use Rattle.pseudo_binary.proofs.Length.{width, each, bits_after, our_bits}
use Rattle.pseudo_binary.proofs.Characters.{alike-replicate, of-kind, character_of-value}
use Rattle.pseudo_binary.proofs.Entries.{pred-our-most, our-most-few, indicator-of, six-of, after-six}
use Rattle.pseudo_binary.proofs.Size.{none-in-hand, opens, counts, no-use, our-bits}

-- no indicator counts more than ours do
none-fuller : (k : Kind) (n : ℕ) → n < most k → n ≤ pred (our_most k)
unfolding most our_most
none-fuller values n h = omega arith
none-fuller spaces n h = omega arith
none-fuller slashes n h = omega arith

-- an indicator that can count more takes no more bits, and one that can count less at most an indicator more
record Room (k : Kind) (t : List ℕ) : Type 0 where
  more : (n m : ℕ) → m ≤ n → bits_after k n t ≤ bits_after k m t
  less : (n m : ℕ) → m ≤ most k → bits_after k n t ≤ width k + bits_after k m t

room_cons : (k : Kind) (c : ℕ) (t : List ℕ) → Room k t → (b : Bool) → is_of k c ≡ b → Room k (c ∷ t)
room_cons k c t r false x = record {
  more = λ n m h. omega (arith, no-use k n c t x, no-use k m c t x);
  less = λ n m h. omega (arith, no-use k n c t x, no-use k m c t x);
}
room_cons k c t r true x = record { more = more; less = less }
  where
    fresh : bits_after k 0 (c ∷ t) ≡ width k + (each k + bits_after k (pred (our_most k)) t)
    fresh = none-in-hand k (c ∷ t) ∙ opens k c t (of-kind k c x)

    more : (n m : ℕ) → m ≤ n → bits_after k n (c ∷ t) ≤ bits_after k m (c ∷ t)
    more zero zero h = omega arith
    more zero (suc m) h = absurd (let no : ⊥ = omega arith in no)
    more (suc n) zero h = omega (arith, fresh, counts k n c t x, r.less n (pred (our_most k)) (omega (arith, pred-our-most k, our-most-few k)))
    more (suc n) (suc m) h = omega (arith, counts k n c t x, counts k m c t x, r.more n m (omega arith))

    less : (n m : ℕ) → m ≤ most k → bits_after k n (c ∷ t) ≤ width k + bits_after k m (c ∷ t)
    less zero zero h = omega arith
    less zero (suc m) h = omega (arith, fresh, counts k m c t x, r.more (pred (our_most k)) m (none-fuller k m h))
    less (suc n) zero h = omega (arith, fresh, counts k n c t x, r.less n (pred (our_most k)) (omega (arith, pred-our-most k, our-most-few k)))
    less (suc n) (suc m) h = omega (arith, counts k n c t x, counts k m c t x, r.less n m (omega arith))

room : (k : Kind) (t : List ℕ) → Room k t
unfolding bits_after
room k [] = record { more = λ n m h. omega arith; less = λ n m h. omega arith }
room k (c ∷ t) = room_cons k c t (room k t) (is_of k c) refl

counted-cost : (k : Kind) (n : ℕ) (r t : List ℕ) → Alike k r → length r ≤ n → bits_after k n (r ++ t) ≤ each k * length r + our_bits t
counted-cost k n [] t a h = omega (arith, (room k t).more n 0 h, none-in-hand k t)
counted-cost k zero (c ∷ r) t a h = absurd (let no : ⊥ = omega arith in no)
counted-cost k (suc n) (c ∷ r) t a h =
    simp unary_clauses (omega (arith, counts k n c (r ++ t) a.0, counted-cost k n r t a.1 (omega arith)))

-- putting one indicator with what it counts in front costs at most its code
pub indicator-cost : (k : Kind) (r t : List ℕ) → Alike k r → 0 < length r → length r ≤ most k
    → our_bits (r ++ t) ≤ width k + (each k * length r + our_bits t)
indicator-cost k [] t a p h = absurd (let no : ⊥ = omega arith in no)
indicator-cost k (c ∷ r) t a p h =
    simp unary_clauses
    (omega (
      arith,
      opens k c (r ++ t) (of-kind k c a.0),
      counted-cost k (pred (our_most k)) r t a.1 (none-fuller k (length r) h),
    ))

-- the values that were announced come next
record Announced (m : ℕ) (text : List ℕ) : Type 0 where
  front : List ℕ
  rest : List ℕ
  all : text ≡ front ++ rest
  many : length front ≡ m
  alike : Alike values front

values-next : (m : ℕ) (es : List Entry) → Row scheme m es 0 → Announced m (texts es)
unfolding texts six
values-next zero es r = record { front = []; rest = texts es; all = refl; many = refl; alike = tt }
values-next (suc m) [] r = absurd (let no : ⊥ = omega arith in no)
values-next (suc m) (e ∷ es) r =
    let s = six-of m r.0 in
    let next : Row scheme m es 0 = subst (λ (n : ℕ). Row scheme n es 0) (ap (state_after (suc m)) s.2 ∙ after-six m s.0) r.1 in
    let l : Announced m (texts es) = values-next m es next in
    record {
      front = character_of s.0 ∷ l.front;
      rest = l.rest;
      all = ap (λ (d : Entry). d.says ++ texts es) s.2 ∙ ap (λ (t : List ℕ). character_of s.0 ∷ t) l.all;
      many = ap suc l.many;
      alike = (character_of-value s.0 s.1, l.alike);
    }

-- the bits that a text still needs at the least, where m of its values are announced
still : ℕ → List ℕ → ℕ
still m t = 6 * m + our_bits (drop m t)

still-announced : (m : ℕ) (t : List ℕ) (l : Announced m t) → still m t ≡ 6 * m + our_bits l.rest
unfolding still
still-announced m t l =
    ap (λ (u : List ℕ). 6 * m + our_bits u) (ap (drop m) l.all ∙ drop_at l.front l.rest m l.many)

values-still : (c : ℕ) (t : List ℕ) → c < most values → Announced (suc c) t → our_bits t ≤ 8 + still (suc c) t
unfolding width each most
values-still c t h l =
    omega (
      arith,
      indicator-cost values l.front l.rest l.alike (omega (arith, l.many)) (omega (arith, l.many)),
      ap our_bits l.all,
      still-announced (suc c) t l,
      l.many,
    )

repeat-still : (k : Kind) (x c : ℕ) (t : List ℕ) → is_of k x ≡ true → c < most k
    → our_bits (replicate (suc c) x ++ t) ≤ width k + (each k * suc c + our_bits t)
repeat-still k x c t e h =
    subst (λ (n : ℕ). our_bits (replicate (suc c) x ++ t) ≤ width k + (each k * n + our_bits t)) (length-replicate (suc c) x)
    (indicator-cost k (replicate (suc c) x) t (alike-replicate k x (suc c) e) (omega arith) (omega (arith, length-replicate {A = ℕ} c x)))

indicator-still : (k : Kind) (c : ℕ) (es : List Entry) → c < most k → Row scheme (state_after 0 (indicator k c)) es 0
    → still 0 ((indicator k c).says ++ texts es) ≤ length (indicator k c).code + still (state_after 0 (indicator k c)) (texts es)
unfolding still indicator state_after low width each most is_of
indicator-still values c es h r =
    simp zero-add (omega (arith, values-still c (texts es) h (values-next (suc c) es (simp zero-add at r))))
indicator-still spaces c es h r = omega (arith, repeat-still spaces SPACE c (texts es) refl h)
indicator-still slashes c es h r = omega (arith, repeat-still slashes SLASH c (texts es) refl h)

six-still : (m v : ℕ) (t : List ℕ) → still (suc m) ((six v).says ++ t) ≤ length (six v).code + still (state_after (suc m) (six v)) t
unfolding still six low
six-still m v t = rw after-six (omega arith)

entry-still : (m : ℕ) (e : Entry) (es : List Entry) → In e (tables m) → Row scheme (state_after m e) es 0
    → still m (e.says ++ texts es) ≤ length e.code + still (state_after m e) (texts es)
entry-still zero e es h r =
    let i = indicator-of h in
    subst⁻¹ (λ (d : Entry). still 0 (d.says ++ texts es) ≤ length d.code + still (state_after 0 d) (texts es)) i.3
    (indicator-still i.0 i.1 es i.2 (subst (λ (d : Entry). Row scheme (state_after 0 d) es 0) i.3 r))
entry-still (suc m) e es h r =
    let s = six-of m h in
    subst⁻¹ (λ (d : Entry). still (suc m) (d.says ++ texts es) ≤ length d.code + still (state_after (suc m) d) (texts es)) s.2
    (six-still m s.0 (texts es))

cost : Cost scheme still
unfolding still our_bits bits_after
cost = record { nothing = refl; entry = entry-still }

pub shortest : (t : List ℕ) (es : List Entry) → Row scheme 0 es 0 → texts es ≡ t → length (codes (ours t)) ≤ length (codes es)
unfolding still
shortest = cost-shortest ours cost (λ t. omega (arith, our-bits t))
