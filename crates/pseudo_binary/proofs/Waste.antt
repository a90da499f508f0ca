-- What cuts cost: no data of a text has more than sixteen times the bits of another before its fill. How many a run has in single ones, and how many in ours.
-- Assumes nothing.
use mathlib.Core.Path.{◌≡◌, refl, sym, ap, subst⁻¹, ◌∙◌}
use mathlib.Core.Bool.{Bool, true, cond, ◌||◌}
use mathlib.Core.List.{List, [], ◌∷◌, append-nil}
use Prim.Native.Nat.{ℕ, zero, suc, ◌+◌, ◌*◌, ◌≤◌, ◌<◌}
use native.Mathlib.Numerals.{unary_clauses}
use native.Mathlib.Omega.{arith}
use lib.Dec.{T}
use lib.ListN.{length, replicate}
use borrow.Author.Tests.{eqb-true}
use Rattle.codes.specs.Chain.{Entry, In, state_after, codes, texts, bits_in, Built}
use Rattle.codes.specs.Pack.{low, written}
use Rattle.codes.proofs.BitsInBytes.{gap-few, row-built}
use Rattle.codes.proofs.CodedTexts.{coded_none, coded-cons, coded-rest}
use Rattle.codes.proofs.Weighed.{weight, Weighing, times-at-most}
use Rattle.pseudo_binary.specs.Table.{SPACE, SLASH, Kind, values, spaces, slashes, is_of, coded, AllCoded, indicator, most, six, tables, scheme}
use Rattle.pseudo_binary.specs.Makers.{singly}
use Rattle.pseudo_binary.specs.Writer.{kind, ours, comes_back, Alike}
use Rattle.pseudo_binary.proofs.Characters.{of-kind, kind-of, character_of-value}
use Rattle.pseudo_binary.proofs.Entries.{pred-our-most, our-most-few, indicator-of, six-of, after-six}
use Rattle.pseudo_binary.proofs.Length.{width, each, takes, bits_after, our_bits}
use Rattle.pseudo_binary.proofs.Runs.{said, announced, Counted, counted_none, counted-one, counted-all}
use Rattle.pseudo_binary.proofs.Size.{opened-bits, started, our-bits, run-bits}
use Rattle.pseudo_binary.proofs.Table.{all-bits}

-- ---- sixteen times at most

-- in sixteenths of a bit: a value has six bits, and one of 128 under an indicator of eight; of spaces and slashes sixteen share one of six
unfoldable weigh : ℕ → ℕ
weigh c = cond (is_of values c) 97 6

weigh-repeated : (c n : ℕ) → weigh c ≡ 6 → weight weigh (replicate n c) ≡ 6 * n
unfolding weight
weigh-repeated c zero x = refl
weigh-repeated c (suc n) x = omega (arith, weigh-repeated c n x)

-- no indicator, and no value, has more bits than what it says weighs, where each value that is announced stands for eight
indicator-heavy : (k : Kind) (c : ℕ)
    → length (indicator k c).code + 8 * 0 ≤ weight weigh (indicator k c).says + 8 * state_after 0 (indicator k c)
unfolding indicator state_after low is_of weight weigh
indicator-heavy values c = omega arith
indicator-heavy spaces c = omega (arith, weigh-repeated SPACE (suc c) refl)
indicator-heavy slashes c = omega (arith, weigh-repeated SLASH (suc c) refl)

indicator-light : (k : Kind) (c : ℕ) → c < most k
    → weight weigh (indicator k c).says + state_after 0 (indicator k c) ≤ 16 * length (indicator k c).code + 0
unfolding indicator most state_after low is_of weight weigh
indicator-light values c h = omega arith
indicator-light spaces c h = omega (arith, weigh-repeated SPACE (suc c) refl)
indicator-light slashes c h = omega (arith, weigh-repeated SLASH (suc c) refl)

value-weighs : (v : ℕ) → v < 64 → weight weigh (six v).says ≡ 97
unfolding six weight weigh
value-weighs v h = ap (λ (b : Bool). cond b 97 6 + 0) (character_of-value v h)

six-bits : (v : ℕ) → length (six v).code ≡ 6
unfolding six low
six-bits v = refl

heavy : (m : ℕ) (e : Entry) → In e (tables m) → length e.code + 8 * m ≤ weight weigh e.says + 8 * state_after m e
heavy zero e h =
    let i = indicator-of h in
    subst⁻¹ (λ (d : Entry). length d.code + 8 * 0 ≤ weight weigh d.says + 8 * state_after 0 d) i.3 (indicator-heavy i.0 i.1)
heavy (suc m) e h =
    let s = six-of m h in
    subst⁻¹ (λ (d : Entry). length d.code + 8 * suc m ≤ weight weigh d.says + 8 * state_after (suc m) d) s.2
    (omega (arith, six-bits s.0, value-weighs s.0 s.1, after-six m s.0))

light : (m : ℕ) (e : Entry) → In e (tables m) → weight weigh e.says + state_after m e ≤ 16 * length e.code + m
light zero e h =
    let i = indicator-of h in
    subst⁻¹ (λ (d : Entry). weight weigh d.says + state_after 0 d ≤ 16 * length d.code + 0) i.3 (indicator-light i.0 i.1 i.2)
light (suc m) e h =
    let s = six-of m h in
    subst⁻¹ (λ (d : Entry). weight weigh d.says + state_after (suc m) d ≤ 16 * length d.code + suc m) s.2
    (omega (arith, six-bits s.0, value-weighs s.0 s.1, after-six m s.0))

weighing : Weighing scheme weigh (λ m. 8 * m) (λ m. m) 16
weighing = record { heavy = heavy; light = light }

pub sixteen-times : {text : List ℕ} (a b : List ℕ) (p : Built scheme text a) (q : Built scheme text b) → bits_in p ≤ 16 * bits_in q
sixteen-times a b p q = times-at-most weighing p.entries q.entries p.row q.row (p.says ∙ sym q.says)

-- ---- single ones

singly-counted : (k : Kind) (t : List ℕ) → AllCoded t → Counted k 0 t (singly t)
unfolding singly texts comes_back
singly-counted k [] h = counted_none k refl refl
singly-counted k (c ∷ t) h =
    let j = kind c in
    counted-all k (omega (arith, pred-our-most j, our-most-few j)) (counted-one c (kind-of j c (h 0 (omega arith)) refl) (singly-counted j t (coded-rest coded c t h)))

-- a maker may build it so
pub singly-built : (t : List ℕ) → AllCoded t → (b : Built scheme (comes_back t) (written (singly t))) × (bits_in b ≡ length (codes (singly t)))
unfolding said announced
singly-built t h =
    let c : Counted values 0 t (singly t) = singly-counted values t h in
    row-built scheme all-bits (singly t) (gap-few (length (codes (singly t)))) c.row c.says

-- ---- a run of one kind

kind-coded : (k : Kind) (c : ℕ) → is_of k c ≡ true → T (coded c)
unfolding is_of coded
kind-coded values c x = subst⁻¹ (λ (b : Bool). T (b || (is_of spaces c || is_of slashes c))) x tt
kind-coded spaces c x = subst⁻¹ (λ (d : ℕ). T (coded d)) (eqb-true c SPACE x) tt
kind-coded slashes c x = subst⁻¹ (λ (d : ℕ). T (coded d)) (eqb-true c SLASH x) tt

pub alike-coded : (k : Kind) (r : List ℕ) → Alike k r → AllCoded r
alike-coded k [] a = coded_none coded
alike-coded k (c ∷ r) a = coded-cons coded c r (kind-coded k c a.0) (alike-coded k r a.1)

-- in single ones: an indicator for each
pub singly-bits : (k : Kind) (r : List ℕ) → Alike k r → length (codes (singly r)) ≡ width k * length r + each k * length r
unfolding singly codes
singly-bits k [] a = simp unary_clauses (omega arith)
singly-bits k (c ∷ r) a =
    simp unary_clauses
    (omega (
      arith,
      opened-bits (kind c) 0 c (singly r),
      ap width (of-kind k c a.0),
      ap each (of-kind k c a.0),
      singly-bits k r a.1,
    ))

-- in ours: as few indicators as can be
pub ours-bits : (k : Kind) (r : List ℕ) → Alike k r → length (codes (ours r)) ≡ width k * started k (length r) + each k * length r
unfolding takes bits_after our_bits
ours-bits k r a =
    our-bits r ∙ ap our_bits (sym (append-nil r)) ∙ run-bits k r [] a tt
    ∙ (let e : width k * started k (length r) + (each k * length r + 0) ≡ width k * started k (length r) + each k * length r = omega arith in e)
