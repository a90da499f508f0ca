-- What a maker may send of a text are the rows that say what the text comes back as, and no others. So a text with 127 and the one with question marks in
-- its place are built alike, by every maker.
-- Assumes nothing.
use mathlib.Core.Path.{◌≡◌, refl, sym, ap, ap₂, subst, subst⁻¹, ◌∙◌}
use mathlib.Core.Bool.{true}
use mathlib.Core.List.{List, [], ◌∷◌, ◌++◌, append_assoc, head-eq_of_cons-eq, tail-eq_of_cons-eq}
use mathlib.Core.Logic.{◌↔◌}
use Prim.Native.Nat.{ℕ, zero, suc, ◌<◌}
use native.Mathlib.Nat.{zero-add}
use native.Mathlib.Omega.{arith}
use lib.ListN.{length, replicate, length-replicate}
use Rattle.codes.specs.Chain.{Entry, state_after, Row, texts, Built}
use Rattle.pseudo_binary.specs.Table.{SPACE, SLASH, Kind, values, spaces, slashes, is_of, AllCoded, value_of, character_of, indicator, most, six, scheme}
use Rattle.pseudo_binary.specs.Writer.{besides, ours, back_as, comes_back, Alike}
use Rattle.pseudo_binary.specs.Makers.{spelled, Sends, nothing, part, BuildsOf}
use Rattle.pseudo_binary.proofs.Characters.{alike-replicate, is_of-back, value_of-same, character_of-value, character_of-value_of}
use Rattle.pseudo_binary.proofs.Entries.{indicator-of, six-of, after-six}
use Rattle.pseudo_binary.proofs.Runs.{said, announced, Counted, counted_none, counted-one, counted-all}
use Rattle.pseudo_binary.proofs.Writer.{ours-row, ours-says, back-length}

-- ---- what a maker may send says what the text comes back as

spelled-counted : (k : Kind) (r t : List ℕ) (es : List Entry) → Alike k r → Counted k 0 t es → Counted k (length r) (r ++ t) (spelled k r ++ es)
unfolding spelled
spelled-counted k [] t es a h = h
spelled-counted k (c ∷ r) t es a h =
    subst⁻¹ (Counted k (suc (length r)) (c ∷ (r ++ t))) (append_assoc (besides k c) (spelled k r) es)
    (counted-one c a.0 (spelled-counted k r t es a.1 h))

sends-counted : {t : List ℕ} {es : List Entry} → Sends t es → (k : Kind) → Counted k 0 t es
unfolding texts comes_back
sends-counted nothing k = counted_none k refl refl
sends-counted (part {text} {es} j c r a l s) k =
    let few : length r < most j = omega arith in
    counted-all k few (spelled-counted j (c ∷ r) text es a (sends-counted s j))

pub sends-row : {t : List ℕ} {es : List Entry} → Sends t es → Row scheme 0 es 0
unfolding announced
sends-row s = (sends-counted s values).row

pub sends-says : {t : List ℕ} {es : List Entry} → Sends t es → texts es ≡ comes_back t
unfolding said
sends-says s = (sends-counted s values).says

-- ---- and what says that, a maker may send

-- a text whose front and rest come back as these
record Split (a b t : List ℕ) : Type 0 where
  front : List ℕ
  rest : List ℕ
  all : t ≡ front ++ rest
  first : a ≡ comes_back front
  later : b ≡ comes_back rest

split : (a b t : List ℕ) → a ++ b ≡ comes_back t → Split a b t
unfolding comes_back
split [] b t e = record { front = []; rest = t; all = refl; first = refl; later = e }
split (x ∷ a) b [] e = absurd (let no' : ⊥ = omega (arith, ap length e) in no')
split (x ∷ a) b (c ∷ t) e =
    let s : Split a b t = split a b t (tail-eq_of_cons-eq e) in
    record {
      front = c ∷ s.front;
      rest = s.rest;
      all = ap (λ (l : List ℕ). c ∷ l) s.all;
      first = ap₂ (λ (y : ℕ) (l : List ℕ). y ∷ l) (head-eq_of_cons-eq e) s.first;
      later = s.later;
    }

alike-back : (k : Kind) (r : List ℕ) → Alike k (comes_back r) → Alike k r
unfolding comes_back
alike-back k [] a = tt
alike-back k (c ∷ r) a = (sym (is_of-back k c) ∙ a.0, alike-back k r a.1)

-- spaces or slashes take nothing besides their indicator
unspelled : (k : Kind) → ((c : ℕ) → besides k c ≡ []) → (r : List ℕ) → spelled k r ≡ []
unfolding spelled
unspelled k none [] = refl
unspelled k none (c ∷ r) = ap₂ (λ (es ds : List Entry). es ++ ds) (none c) (unspelled k none r)

part-repeated : (k : Kind) (x c : ℕ) (r t : List ℕ) (es : List Entry) → is_of k x ≡ true → ((c : ℕ) → besides k c ≡ []) → c < most k
    → replicate (suc c) x ≡ comes_back r → Sends t es → Sends (r ++ t) (indicator k c ∷ es)
part-repeated k x c [] t es i none l e s = absurd (let no' : ⊥ = omega (arith, ap length e, back-length [], length-replicate {A = ℕ} (suc c) x) in no')
part-repeated k x c (d ∷ r) t es i none l e s =
    let many : length r ≡ c = omega (arith, ap length e, back-length (d ∷ r), length-replicate {A = ℕ} (suc c) x) in
    let alike : Alike k (d ∷ r) = alike-back k (d ∷ r) (subst (Alike k) e (alike-replicate k x (suc c) i)) in
    subst (λ (n : ℕ). Sends ((d ∷ r) ++ t) (indicator k n ∷ es)) many
    (subst (λ (ds : List Entry). Sends ((d ∷ r) ++ t) (indicator k (length r) ∷ (ds ++ es))) (unspelled k none (d ∷ r))
    (part k d r alike (omega arith) s))

-- the text where m of its values are announced: they are its front, and what a maker may send of the rest follows them
record Goes (m : ℕ) (t : List ℕ) (es : List Entry) : Type 0 where
  front : List ℕ
  rest : List ℕ
  entries : List Entry
  all : t ≡ front ++ rest
  many : length front ≡ m
  alike : Alike values front
  spells : es ≡ spelled values front ++ entries
  sends : Sends rest entries

goes_none : {t : List ℕ} {es : List Entry} → Sends t es → Goes 0 t es
unfolding spelled
goes_none {t} {es} s = record { front = []; rest = t; entries = es; all = refl; many = refl; alike = tt; spells = refl; sends = s }

part-values : (c : ℕ) (t : List ℕ) (es : List Entry) → c < most values → Goes (suc c) t es → Sends t (indicator values c ∷ es)
part-values c t es l g = pick g.front refl
  where
    pick : (r : List ℕ) → g.front ≡ r → Sends t (indicator values c ∷ es)
    pick [] e = absurd (let no' : ⊥ = omega (arith, ap length e, g.many) in no')
    pick (d ∷ r) e =
        let many : length r ≡ c = omega (arith, ap length e, g.many) in
        subst⁻¹ (λ (u : List ℕ). Sends u (indicator values c ∷ es)) (g.all ∙ ap (λ (f : List ℕ). f ++ g.rest) e)
        (subst⁻¹ (λ (ds : List Entry). Sends ((d ∷ r) ++ g.rest) (indicator values c ∷ ds))
        (g.spells ∙ ap (λ (f : List ℕ). spelled values f ++ g.entries) e)
        (subst (λ (n : ℕ). Sends ((d ∷ r) ++ g.rest) (indicator values n ∷ (spelled values (d ∷ r) ++ g.entries))) many
        (part values d r (subst (Alike values) e g.alike) (omega arith) g.sends)))

goes-value : (m v : ℕ) (t : List ℕ) (es : List Entry) → v < 64 → character_of v ∷ texts es ≡ comes_back t
    → ((u : List ℕ) → texts es ≡ comes_back u → Goes m u es) → Goes (suc m) t (six v ∷ es)
unfolding comes_back spelled besides
goes-value m v [] es h e go = absurd (let no' : ⊥ = omega (arith, ap length e) in no')
goes-value m v (c ∷ t) es h e go =
    let g : Goes m t es = go t (tail-eq_of_cons-eq e) in
    let back : character_of v ≡ back_as c = head-eq_of_cons-eq e in
    record {
      front = c ∷ g.front;
      rest = g.rest;
      entries = g.entries;
      all = ap (λ (l : List ℕ). c ∷ l) g.all;
      many = ap suc g.many;
      alike = (sym (is_of-back values c) ∙ ap (is_of values) (sym back) ∙ character_of-value v h, g.alike);
      spells = ap₂ (λ (n : ℕ) (ds : List Entry). six n ∷ ds) (sym (character_of-value_of v h) ∙ ap value_of back ∙ value_of-same c) g.spells;
      sends = g.sends;
    }

goes-sends : (t : List ℕ) (es : List Entry) → Goes 0 t es → Sends t es
unfolding spelled
goes-sends t es g = pick g.front refl
  where
    pick : (r : List ℕ) → g.front ≡ r → Sends t es
    pick [] e =
        subst⁻¹ (λ (u : List ℕ). Sends u es) (g.all ∙ ap (λ (f : List ℕ). f ++ g.rest) e)
        (subst⁻¹ (λ (ds : List Entry). Sends g.rest ds) (g.spells ∙ ap (λ (f : List ℕ). spelled values f ++ g.entries) e) g.sends)
    pick (d ∷ r) e = absurd (let no' : ⊥ = omega (arith, ap length e, g.many) in no')

repeated-sends : (k : Kind) (x c : ℕ) (t : List ℕ) (es : List Entry) → is_of k x ≡ true → ((c : ℕ) → besides k c ≡ []) → c < most k
    → replicate (suc c) x ++ texts es ≡ comes_back t → ((u : List ℕ) → texts es ≡ comes_back u → Goes 0 u es) → Sends t (indicator k c ∷ es)
repeated-sends k x c t es i none l e go =
    let s : Split (replicate (suc c) x) (texts es) t = split (replicate (suc c) x) (texts es) t e in
    subst⁻¹ (λ (u : List ℕ). Sends u (indicator k c ∷ es)) s.all
    (part-repeated k x c s.front s.rest es i none l s.first (goes-sends s.rest es (go s.rest s.later)))

indicator-sends : (k : Kind) (c : ℕ) (t : List ℕ) (es : List Entry) → c < most k → (indicator k c).says ++ texts es ≡ comes_back t
    → ((m : ℕ) → state_after 0 (indicator k c) ≡ m → (u : List ℕ) → texts es ≡ comes_back u → Goes m u es) → Sends t (indicator k c ∷ es)
unfolding indicator state_after is_of besides
indicator-sends values c t es l e go = part-values c t es l (go (suc c) (zero-add (suc c)) t e)
indicator-sends spaces c t es l e go = repeated-sends spaces SPACE c t es refl (λ c. refl) l e (go 0 refl)
indicator-sends slashes c t es l e go = repeated-sends slashes SLASH c t es refl (λ c. refl) l e (go 0 refl)

goes : (m : ℕ) (es : List Entry) (t : List ℕ) → Row scheme m es 0 → texts es ≡ comes_back t → Goes m t es
unfolding texts six comes_back
goes m [] [] r e = subst⁻¹ (λ (n : ℕ). Goes n [] []) r (goes_none nothing)
goes m [] (c ∷ t) r e = absurd (let no' : ⊥ = omega (arith, ap length e) in no')
goes zero (x ∷ es) t r e =
    let i = indicator-of r.0 in
    goes_none
    (subst⁻¹ (λ (d : Entry). Sends t (d ∷ es)) i.3
    (indicator-sends i.0 i.1 t es i.2 (ap (λ (d : Entry). d.says ++ texts es) (sym i.3) ∙ e)
    (λ m after u q. goes m es u (subst (λ (n : ℕ). Row scheme n es 0) (ap (state_after 0) i.3 ∙ after) r.1) q)))
goes (suc m) (x ∷ es) t r e =
    let s = six-of m r.0 in
    subst⁻¹ (λ (d : Entry). Goes (suc m) t (d ∷ es)) s.2
    (goes-value m s.0 t es s.1 (ap (λ (d : Entry). d.says ++ texts es) (sym s.2) ∙ e)
    (λ u q. goes m es u (subst (λ (n : ℕ). Row scheme n es 0) (ap (state_after (suc m)) s.2 ∙ after-six m s.0) r.1) q))

pub says-sends : (t : List ℕ) (es : List Entry) → Row scheme 0 es 0 → texts es ≡ comes_back t → Sends t es
says-sends t es r e = goes-sends t es (goes 0 es t r e)

-- our writer's way is one of them
pub ours-sends : (t : List ℕ) → AllCoded t → Sends t (ours t)
ours-sends t u = says-sends t (ours t) (ours-row t u) (ours-says t u)

-- the data that any maker may build of a text carries what the text comes back as, and no other data does
pub builds-back : (text carried : List ℕ) → BuildsOf text carried ↔ Built scheme (comes_back text) carried
builds-back text carried = (
  λ b. record { entries = b.entries; fill = b.fill; row = sends-row b.sends; says = sends-says b.sends; ends = b.ends; bits = b.is },
  λ b. record { entries = b.entries; fill = b.fill; sends = says-sends text b.entries b.row b.says; ends = b.ends; is = b.bits },
)
