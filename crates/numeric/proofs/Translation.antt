-- The special translation, both ways: what a maker may send for a text is translated back to it, and all base characters are such a sending of what they
-- are translated to.
-- Assumes nothing.
use mathlib.Core.Path.{◌≡◌, refl, sym, ap, subst, subst⁻¹, ◌∙◌}
use mathlib.Core.Bool.{Bool, cond}
use mathlib.Core.Logic.{◌⊎◌, inl, inr, ⊎_elim}
use mathlib.Core.List.Memᴰ
use mathlib.Core.List.{List, [], ◌∷◌, ◌++◌, map, append-nil, Memᴰ}
use Prim.Native.Nat.{ℕ}
use native.Mathlib.Omega.{arith}
use lib.Dec.{T, eqb, eqb→eq}
use lib.ListN.{length}
use Rattle.bits.specs.Numbers.{numbers}
use Rattle.codes.specs.Chain.{Entry, In, codes, texts}
use Rattle.codes.specs.Lookup.{same, found, meaning}
use Rattle.codes.proofs.EveryElement.{every, every-at}
use Rattle.codes.proofs.Lookup.{unlike, meant, meaning-own}
use Rattle.codes.proofs.Pieces.{AllIn, row-all}
use Rattle.codes.proofs.SingleTable.{mute, row_one}
use Rattle.numeric.specs.Table.{characters}
use Rattle.numeric.specs.Translation.{sent, itself, specials, translation, Apart, AllApart, Translates, translated}

pub mutes : T (every mute translation)
unfolding translation specials sent itself characters numbers every mute
mutes = tt

-- no two of Table 5 are sent as the same, and each is sent as two
distinct-codes : T (unlike (λ e. e.code) specials)
unfolding specials sent every unlike same
distinct-codes = tt

unfoldable two : Entry → Bool
two e = eqb (length e.code) 2

all_two : T (every two specials)
unfolding specials sent every two
all_two = tt

two-of : (u : List ℕ) → T (eqb (length u) 2) → (a b : ℕ) × (u ≡ a ∷ b ∷ [])
two-of [] t = absurd t
two-of (a ∷ []) t = absurd t
two-of (a ∷ b ∷ []) t = (a, b, refl)
two-of (a ∷ b ∷ c ∷ u) t = absurd (let no : ⊥ = omega (arith, eqb→eq (length (a ∷ b ∷ c ∷ u)) 2 t) in no)

pub special-two : (e : Entry) → In e specials → (a b : ℕ) × (e.code ≡ a ∷ b ∷ [])
unfolding two
special-two e h = two-of e.code (every-at two specials all_two e h)

pub special-in : {e : Entry} → In e specials → In e translation
unfolding translation
special-in h = Memᴰ.append_right (map itself characters) h

pub itself-in : (c : ℕ) → Memᴰ c characters → In (itself c) translation
unfolding translation
itself-in c h = Memᴰ.append_left specials (Memᴰ.map itself h)

-- an entry is a base character, or one of Table 5
pub translation-of : (e : Entry) → In e translation → ((c : ℕ) × Memᴰ c characters × (e ≡ itself c)) ⊎ In e specials
unfolding translation
translation-of e h =
    ⊎_elim (λ m. let o = Memᴰ.of_map itself characters m in inl (o.0, o.1, sym o.2)) (λ m. inr m) (Memᴰ.append_cases (map itself characters) h)

-- a base character in front that makes no sequence with the next is itself
alone-first : (a : ℕ) (base : List ℕ) → Apart (a ∷ []) base → translated (a ∷ base) ≡ a ∷ translated base
unfolding translated found
alone-first a [] h = refl
alone-first a (b ∷ base) h =
    ap (λ (l : List Entry). cond (found l) (texts l ++ translated base) (a ∷ translated (b ∷ base))) h

-- a sequence of Table 5 in front is what it says
special-first : (e : Entry) → In e specials → (base : List ℕ) → translated (e.code ++ base) ≡ e.says ++ translated base
unfolding translated found texts
special-first e h base =
    let t = special-two e h in
    let one = ap (meaning specials) (sym t.2) ∙ meaning-own specials distinct-codes e h in
    subst⁻¹ (λ (u : List ℕ). translated (u ++ base) ≡ e.says ++ translated base) t.2
    (ap (λ (l : List Entry). cond (found l) (texts l ++ translated base) (t.0 ∷ translated (t.1 ∷ base))) one
    ∙ ap (λ (u : List ℕ). u ++ translated base) (append-nil e.says))

-- an entry in front says what it says
entry_first : (e : Entry) → In e translation → (base : List ℕ) → Apart e.code base → translated (e.code ++ base) ≡ e.says ++ translated base
unfolding itself sent
entry_first e h base a =
    ⊎_elim
    (λ o. subst⁻¹ (λ (d : Entry). Apart d.code base → translated (d.code ++ base) ≡ d.says ++ translated base) o.2 (alone-first o.0 base) a)
    (λ m. special-first e m base) (translation-of e h)

translated-row : (es : List Entry) → AllIn translation es → AllApart es → translated (codes es) ≡ texts es
unfolding codes texts translated
translated-row [] h a = refl
translated-row (e ∷ es) h a =
    entry_first e h.0 (codes es) a.0 ∙ ap (λ (u : List ℕ). e.says ++ u) (translated-row es h.1 a.1)

-- one way: what is sent for a text is translated back to it
pub translated-back : (base text : List ℕ) → Translates base text → translated base ≡ text
translated-back base text t =
    ap translated (sym t.is) ∙ translated-row t.entries (row-all translation 0 0 0 t.entries t.row) t.apart ∙ t.says

-- base characters
abbrev pub AllBase : List ℕ → Type 0
AllBase [] = Unit {0}
AllBase (c ∷ base) = Memᴰ c characters × AllBase base

-- an entry more in front
more : (e : Entry) → In e translation → (base text : List ℕ) → Apart e.code base → Translates base text → Translates (e.code ++ base) (e.says ++ text)
unfolding codes texts
more e h base text a t =
    record {
      entries = e ∷ t.entries;
      row = row_one mutes 0 t.entries h t.row;
      apart = (subst (Apart e.code) (sym t.is) a, t.apart);
      says = ap (λ (u : List ℕ). e.says ++ u) t.says;
      is = ap (λ (u : List ℕ). e.code ++ u) t.is;
    }

nothing-sent : Translates [] []
unfolding codes texts
nothing-sent = record { entries = []; row = refl; apart = tt; says = refl; is = refl }

-- a base character that stands alone, in front
alone-more : (a : ℕ) → Memᴰ a characters → (base : List ℕ) → Apart (a ∷ []) base → Translates base (translated base)
    → Translates (a ∷ base) (translated (a ∷ base))
unfolding itself sent
alone-more a h base x t =
    subst⁻¹ (Translates (a ∷ base)) (alone-first a base x) (more (itself a) (itself-in a h) base (translated base) x t)

two-more : (a b : ℕ) (base : List ℕ) → Memᴰ a characters → Translates base (translated base) → Translates (b ∷ base) (translated (b ∷ base))
    → Translates (a ∷ b ∷ base) (translated (a ∷ b ∷ base))
two-more a b base h t u =
    ⊎_elim (λ n. alone-more a h (b ∷ base) n u)
    (λ o. subst (λ (v : List ℕ). Translates (v ++ base) (translated (v ++ base))) o.2
    (subst⁻¹ (Translates (o.0.code ++ base)) (special-first o.0 o.1 base)
    (more o.0 (special-in o.1) base (translated base) (two-apart o.0 o.1 base) t)))
    (meant specials (a ∷ b ∷ []))
  where
    two-apart : (e : Entry) → In e specials → (rest : List ℕ) → Apart e.code rest
    two-apart e m rest = let w = special-two e m in subst⁻¹ (λ (v : List ℕ). Apart v rest) w.2 tt

-- the other way: any base characters are a sending of what they are translated to
pub translates : (base : List ℕ) → AllBase base → Translates base (translated base)
unfolding translated
translates [] h = nothing-sent
translates (a ∷ []) h = alone-more a h.0 [] tt nothing-sent
translates (a ∷ b ∷ base) h = two-more a b base h.0 (translates base h.1.1) (translates (b ∷ base) h.1)
