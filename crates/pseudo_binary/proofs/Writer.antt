-- What our writer builds is a building of what its text comes back as, and no building of that is shorter. Texts that can be read have codes, come back as
-- they are, and are never empty.
-- Assumes nothing.
use mathlib.Core.Path.{◌≡◌, refl, sym, ap, ap₂, subst, subst⁻¹, ◌∙◌}
use mathlib.Core.Bool.{Bool, true, false, cond, ◌||◌}
use mathlib.Core.Logic.{◌⊎◌, inl, inr, ⊎_elim}
use mathlib.Core.List.{List, [], ◌∷◌, ◌++◌, append_assoc}
use Prim.Native.Nat.{ℕ, zero, suc, pred, ◌≤◌, ◌<◌}
use native.Mathlib.Omega.{arith}
use lib.Dec.{T, eqb, eqb→eq, lit<}
use lib.ListN.{length, length-map}
use Rattle.bits.specs.Numbers.{numbers}
use Rattle.codes.specs.Coded.{alone, CodedBelow}
use Rattle.codes.specs.Chain.{Entry, Row, codes, texts}
use Rattle.codes.proofs.CodedTexts.{coded_none, coded-cons, coded-rest}
use Rattle.codes.proofs.EveryElement.{every}
use Rattle.codes.proofs.ReadingAgrees.{Agrees, agrees}
use Rattle.codes.proofs.BitsInBytes.{gap-few}
use Rattle.codes.proofs.WriterLaws as writing
use Rattle.codes.proofs.WriterLaws.{spells, said-coded, WriterFacts, WriterLaws}
use Rattle.pseudo_binary.specs.Table.{Kind, values, spaces, slashes, is_of, coded, AllCoded, character_of, indicator, most, indicators, six, tables, scheme}
use Rattle.pseudo_binary.specs.Writer.{back_as, comes_back, kind, run, besides, our_most, ours_after, ours, Alike}
use Rattle.pseudo_binary.specs.Makers.{spelled}
use Rattle.pseudo_binary.proofs.Table.{laws, sounds, all-bits}
use Rattle.pseudo_binary.proofs.Characters.{Other, of-kind, kind-of, is_of-back, value_of-same}
use Rattle.pseudo_binary.proofs.Entries.{pred-our-most, our-most-few}
use Rattle.pseudo_binary.proofs.Least.{shortest}
use Rattle.pseudo_binary.proofs.Runs.{said, announced, Counted, counted_none, counted-one, counted-all}

-- a run is counted no further than asked
pub run-le : (k : Kind) (n : ℕ) (t : List ℕ) → run k n t ≤ n
unfolding run
run-le k zero t = omega arith
run-le k (suc n) [] = omega arith
run-le k (suc n) (c ∷ t) = pick (is_of k c) (run-le k n t)
  where
    pick : (b : Bool) → run k n t ≤ n → cond b (suc (run k n t)) 0 ≤ suc n
    pick true h = omega arith
    pick false h = omega arith

-- the entries after an indicator of kind k that counts up to n characters of the text
abbrev Follows : Kind → ℕ → List ℕ → Type 0
Follows k n t = Counted k (run k n t) t (ours_after (run k n t) t)

follows-new : (k : Kind) (c : ℕ) (t : List ℕ) → T (coded c) → Follows (kind c) (pred (our_most (kind c))) t
    → Counted k 0 (c ∷ t) (ours_after 0 (c ∷ t))
unfolding ours_after
follows-new k c t u h =
    counted-all k (omega (arith, run-le (kind c) (pred (our_most (kind c))) t, pred-our-most (kind c), our-most-few (kind c)))
    (counted-one c (kind-of (kind c) c u refl) h)

follows : (k : Kind) (n : ℕ) (t : List ℕ) → AllCoded t → Follows k n t
unfolding run ours_after texts comes_back
follows k zero [] u = counted_none k refl refl
follows k (suc n) [] u = counted_none k refl refl
follows k zero (c ∷ t) u =
    follows-new k c t (u 0 (omega arith)) (follows (kind c) (pred (our_most (kind c))) t (coded-rest coded c t u))
follows k (suc n) (c ∷ t) u =
    let rest : AllCoded t = coded-rest coded c t u in
    pick (is_of k c) refl (follows k n t rest) (follows (kind c) (pred (our_most (kind c))) t rest)
  where
    pick : (b : Bool) → is_of k c ≡ b → Follows k n t → Follows (kind c) (pred (our_most (kind c))) t
        → Counted k (cond b (suc (run k n t)) 0) (c ∷ t) (ours_after (cond b (suc (run k n t)) 0) (c ∷ t))
    pick true x h g =
        subst⁻¹ (λ (l : Kind). Counted k (suc (run k n t)) (c ∷ t) (besides l c ++ ours_after (run k n t) t)) (of-kind k c x)
        (counted-one c x h)
    pick false x h g = follows-new k c t (u 0 (omega arith)) g

pub ours-row : (t : List ℕ) → AllCoded t → Row scheme 0 (ours t) 0
unfolding ours run announced
ours-row t u = (follows values 0 t u).row

pub ours-says : (t : List ℕ) → AllCoded t → texts (ours t) ≡ comes_back t
unfolding ours run said
ours-says t u = (follows values 0 t u).says

-- where our writer cuts: as many of a run as one indicator counts, or what is left of the run
spelled-after : (k : Kind) (r t : List ℕ) → Alike k r → ours_after (length r) (r ++ t) ≡ spelled k r ++ ours t
unfolding ours_after ours spelled
spelled-after k [] t a = refl
spelled-after k (c ∷ r) t a =
    ap (λ (l : Kind). besides l c ++ ours_after (length r) (r ++ t)) (of-kind k c a.0)
    ∙ ap (λ (es : List Entry). besides k c ++ es) (spelled-after k r t a.1)
    ∙ sym (append_assoc (besides k c) (spelled k r) (ours t))

run-whole : (k : Kind) (n : ℕ) (r t : List ℕ) → Alike k r → length r ≤ n → (length r ≡ n) ⊎ Other k t → run k n (r ++ t) ≡ length r
unfolding run
run-whole k zero [] t a h e = refl
run-whole k (suc n) [] t a h (inl x) = absurd (let no : ⊥ = omega arith in no)
run-whole k (suc n) [] [] a h (inr x) = refl
run-whole k (suc n) [] (c ∷ t) a h (inr x) = ap (λ (b : Bool). cond b (suc (run k n t)) 0) x
run-whole k zero (c ∷ r) t a h e = absurd (let no : ⊥ = omega arith in no)
run-whole k (suc n) (c ∷ r) t a h e =
    ap (λ (b : Bool). cond b (suc (run k n (r ++ t))) 0) a.0 ∙ ap suc (run-whole k n r t a.1 (omega arith) (later e))
  where
    later : (suc (length r) ≡ suc n) ⊎ Other k t → (length r ≡ n) ⊎ Other k t
    later (inl x) = inl (omega arith)
    later (inr x) = inr x

pub ours-cut : (k : Kind) (c : ℕ) (r t : List ℕ) → Alike k (c ∷ r) → length r < our_most k → (suc (length r) ≡ our_most k) ⊎ Other k t
    → ours ((c ∷ r) ++ t) ≡ (indicator k (length r) ∷ spelled k (c ∷ r)) ++ ours t
unfolding ours ours_after spelled
ours-cut k c r t a h e =
    ap (λ (l : Kind). let m = run l (pred (our_most l)) (r ++ t) in indicator l m ∷ (besides l c ++ ours_after m (r ++ t))) (of-kind k c a.0)
    ∙ ap (λ (m : ℕ). indicator k m ∷ (besides k c ++ ours_after m (r ++ t)))
    (run-whole k (pred (our_most k)) r t a.1 (omega (arith, pred-our-most k)) (⊎_elim (λ x. inl (omega (arith, pred-our-most k))) (λ x. inr x) e))
    ∙ ap (λ (es : List Entry). indicator k (length r) ∷ (besides k c ++ es)) (spelled-after k r t a.1)
    ∙ ap (λ (es : List Entry). indicator k (length r) ∷ es) (sym (append_assoc (besides k c) (spelled k r) (ours t)))

-- what the writer has, and what follows of it
all-spell : (m : ℕ) → T (every (spells coded) (tables m))
unfolding is_of coded character_of indicator most indicators six tables numbers every spells
all-spell zero = tt
all-spell (suc m) = tt

-- what a text comes back as has codes where the text has, and is written as the same data
coded-same : (c : ℕ) → coded (back_as c) ≡ coded c
unfolding coded
coded-same c =
    ap₂ (λ (a b : Bool). a || b) (is_of-back values c) (ap₂ (λ (a b : Bool). a || b) (is_of-back spaces c) (is_of-back slashes c))

back-coded : (t : List ℕ) → AllCoded (comes_back t) → AllCoded t
unfolding comes_back
back-coded [] u = coded_none coded
back-coded (c ∷ t) u =
    coded-cons coded c t (subst T (coded-same c) (u 0 (omega arith))) (back-coded t (coded-rest coded (back_as c) (comes_back t) u))

kind-same : (c : ℕ) → kind (back_as c) ≡ kind c
unfolding kind
kind-same c = ap₂ (λ (a b : Bool). cond a spaces (cond b slashes values)) (is_of-back spaces c) (is_of-back slashes c)

besides-same : (k : Kind) (c : ℕ) → besides k (back_as c) ≡ besides k c
unfolding besides
besides-same values c = ap (λ (v : ℕ). six v ∷ []) (value_of-same c)
besides-same spaces c = refl
besides-same slashes c = refl

run-same : (k : Kind) (n : ℕ) (t : List ℕ) → run k n (comes_back t) ≡ run k n t
unfolding run comes_back
run-same k zero t = refl
run-same k (suc n) [] = refl
run-same k (suc n) (c ∷ t) = ap₂ (λ (b : Bool) (m : ℕ). cond b (suc m) 0) (is_of-back k c) (run-same k n t)

ours_same : (t : List ℕ) (n : ℕ) → ours_after n (comes_back t) ≡ ours_after n t
unfolding ours_after comes_back
ours_same [] n = refl
ours_same (c ∷ t) zero =
    let back : List ℕ = comes_back t in
    let k : Kind = kind c in
    let m : ℕ = run k (pred (our_most k)) t in
    ap (λ (l : Kind). let n = run l (pred (our_most l)) back in indicator l n ∷ (besides l (back_as c) ++ ours_after n back)) (kind-same c)
    ∙ ap (λ (n : ℕ). indicator k n ∷ (besides k (back_as c) ++ ours_after n back)) (run-same k (pred (our_most k)) t)
    ∙ ap₂ (λ (es ds : List Entry). indicator k m ∷ (es ++ ds)) (besides-same k c) (ours_same t m)
ours_same (c ∷ t) (suc n) =
    ap (λ (l : Kind). besides l (back_as c) ++ ours_after n (comes_back t)) (kind-same c)
    ∙ ap₂ (λ (es ds : List Entry). es ++ ds) (besides-same (kind c) c) (ours_same t n)

pub ours-back : (t : List ℕ) → ours (comes_back t) ≡ ours t
unfolding ours
ours-back t = ours_same t 0

pub back-length : (t : List ℕ) → length (comes_back t) ≡ length t
unfolding comes_back
back-length t = length-map t back_as

-- what the tables say comes back as it is
settled : ℕ → Bool
settled c = eqb (back_as c) c

all_settled : (m : ℕ) → T (every (spells settled) (tables m))
unfolding back_as character_of indicator most indicators six tables numbers every spells settled
all_settled zero = tt
all_settled (suc m) = tt

settled-kept : (t : List ℕ) → CodedBelow (alone settled) t (length t) → comes_back t ≡ t
unfolding comes_back settled
settled-kept [] u = refl
settled-kept (c ∷ t) u = ap₂ (λ (y : ℕ) (l : List ℕ). y ∷ l) (eqb→eq (back_as c) c (u 0 (omega arith))) (settled-kept t (coded-rest settled c t u))

writer : WriterFacts scheme (alone coded) comes_back ours
writer = record {
  row = ours-row;
  closes = λ t h. gap-few (length (codes (ours t)));
  says = ours-says;
  shortest = λ t h es r x says.
      subst (λ (ds : List Entry). length (codes ds) ≤ length (codes es)) (ours-back t) (shortest (comes_back t) es r says);
  nonempty = λ t some h. omega (arith, back-length t);
  kept = λ es r x. settled-kept (texts es) (said-coded scheme settled all_settled (texts es) es r refl);
  coded = λ t es r x. back-coded t (said-coded scheme coded all-spell (comes_back t) es r x);
  all-bits = all-bits;
  sounds = sounds;
  few = lit< tt;
}

pub writer-laws : WriterLaws scheme (alone coded) comes_back ours
writer-laws = writing.writer-laws writer

-- what reading gives, and what a maker may build, agree
pub reading-agrees : Agrees scheme
reading-agrees = agrees laws
