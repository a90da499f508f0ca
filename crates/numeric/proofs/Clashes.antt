-- A text has codes exactly where its characters are known and the base characters that stand alone make no sequence of Table 5 with the next.
-- Assumes nothing.
use mathlib.Core.Path.{◌≡◌, refl, sym, ap, subst, subst⁻¹, ◌∙◌}
use mathlib.Core.Bool.{Bool, true, false, not, cond, ◌&&◌, ◌||◌}
use mathlib.Core.Logic.{inl, inr, ⊎_elim}
use mathlib.Core.List.{List, [], ◌∷◌, ◌++◌, append_assoc, append-nil, head-eq_of_cons-eq}
use Prim.Native.Nat.{ℕ, ◌<◌}
use native.Mathlib.Omega.{arith}
use lib.Dec.{T, T_not, eqb, eqb→eq}
use lib.ListN.{length, get_or}
use Rattle.bits.specs.First.{first}
use Rattle.bits.specs.Numbers.{numbers}
use Rattle.codes.specs.Chain.{Entry, In, codes}
use Rattle.codes.specs.Coded.{alone, CodedBelow}
use Rattle.codes.specs.LineEnds.{LF, CR, each_after, ended}
use Rattle.codes.specs.Lookup.{same, found, saying, meaning}
use Rattle.bits.proofs.Said.{and_left, and_right, and_both}
use Rattle.codes.proofs.CodedBehind.{CodedAfter}
use Rattle.codes.proofs.CodedTexts.{coded-rest}
use Rattle.codes.proofs.EveryElement.{every, every-at}
use Rattle.codes.proofs.LineTables.{lined, one_piece, line-pieces, line-whole}
use Rattle.codes.proofs.Lookup.{unlike, Sayer, sayer, meant, nothing-found}
use Rattle.codes.proofs.Pieces as pieces
use Rattle.numeric.specs.Table.{characters}
use Rattle.numeric.specs.Translation.{sent, itself, specials, translation, Apart, AllApart}
use Rattle.numeric.specs.Writer.{own, clashes, coded_behind}
use Rattle.numeric.proofs.Translation.{special-two, translation-of}

-- each entry says a character that is part of no line end, or a line end; no two say the same; and one says a line end
pub lines : T (every lined translation)
unfolding translation specials sent itself characters numbers every lined one_piece
lines = tt

pub distinct : T (unlike (λ e. e.says) translation)
unfolding translation specials sent itself characters numbers every unlike same
distinct = tt

pub ends : T (found (saying translation (CR ∷ LF ∷ [])))
unfolding translation specials sent itself characters numbers saying first found same
ends = tt

-- the base characters that begin a sequence of Table 5
unfoldable sign : ℕ → Bool
sign c = eqb c 43 || (eqb c 45 || eqb c 46)

signs : T (every (λ (e : Entry). sign (get_or e.code 0 0)) specials)
unfolding specials sent every sign
signs = tt

no_sign : (c b : ℕ) → T (not (sign c)) → meaning specials (c ∷ b ∷ []) ≡ []
no_sign c b t =
    ⊎_elim (λ n. n)
    (λ o. absurd (T_not (sign c) t
    (subst (λ (u : List ℕ). T (sign (get_or u 0 0))) o.2 (every-at (λ (e : Entry). sign (get_or e.code 0 0)) specials signs o.0 o.1))))
    (meant specials (c ∷ b ∷ []))

-- no character of Table 5 is one
signless : T (every (λ (e : Entry). every (λ (x : ℕ). not (sign x)) e.says) specials)
unfolding specials sent every sign
signless = tt

-- a character is in what it comes back as
ended-has : (f : ℕ → Bool) (b c : ℕ) → 0 < length (ended b c) → T (every f (ended b c)) → T (f c)
unfolding ended every
ended-has f b c = pick (eqb c CR) (eqb c LF) (eqb b CR) refl refl
  where
    pick : (p q r : Bool) → eqb c CR ≡ p → eqb c LF ≡ q → 0 < length (cond p (CR ∷ LF ∷ []) (cond q (cond r [] (CR ∷ LF ∷ [])) (c ∷ [])))
        → T (every f (cond p (CR ∷ LF ∷ []) (cond q (cond r [] (CR ∷ LF ∷ [])) (c ∷ [])))) → T (f c)
    pick true q r x y some t = subst⁻¹ (λ (z : ℕ). T (f z)) (eqb→eq c CR (subst⁻¹ T x tt)) (and_left (f CR) (f LF && true) t)
    pick false true true x y some t = absurd (let no : ⊥ = omega arith in no)
    pick false true false x y some t =
        subst⁻¹ (λ (z : ℕ). T (f z)) (eqb→eq c LF (subst⁻¹ T y tt)) (and_left (f LF) true (and_right (f CR) (f LF && true) t))
    pick false false r x y some t = and_left (f c) true t

-- and is it, where that is one character
ended-one : (b c d : ℕ) → d ∷ [] ≡ ended b c → d ≡ c
unfolding ended
ended-one b c d = pick (eqb c CR) (eqb c LF) (eqb b CR)
  where
    pick : (p q r : Bool) → d ∷ [] ≡ cond p (CR ∷ LF ∷ []) (cond q (cond r [] (CR ∷ LF ∷ [])) (c ∷ [])) → d ≡ c
    pick true q r x = absurd (let no : ⊥ = omega (arith, ap length x) in no)
    pick false true true x = absurd (let no : ⊥ = omega (arith, ap length x) in no)
    pick false true false x = absurd (let no : ⊥ = omega (arith, ap length x) in no)
    pick false false r x = head-eq_of_cons-eq x

-- LF behind CR alone comes back as nothing
ended-none : (b c : ℕ) → ended b c ≡ [] → (b ≡ CR) × (c ≡ LF)
unfolding ended
ended-none b c = pick (eqb c CR) (eqb c LF) (eqb b CR) refl refl
  where
    pick : (p q r : Bool) → eqb c LF ≡ q → eqb b CR ≡ r → cond p (CR ∷ LF ∷ []) (cond q (cond r [] (CR ∷ LF ∷ [])) (c ∷ [])) ≡ [] → (b ≡ CR) × (c ≡ LF)
    pick true q r y z x = absurd (let no : ⊥ = omega (arith, ap length x) in no)
    pick false true true y z x = (eqb→eq b CR (subst⁻¹ T z tt), eqb→eq c LF (subst⁻¹ T y tt))
    pick false true false y z x = absurd (let no : ⊥ = omega (arith, ap length x) in no)
    pick false false r y z x = absurd (let no : ⊥ = omega (arith, ap length x) in no)

abbrev known : ℕ → Bool
known c = found (saying translation (ended 0 c))

-- what is sent for a known character: nothing, for LF behind CR; itself; or a sequence of Table 5. Only itself can be such that it begins one
data Kind (b c : ℕ) : Type 0 where
  joins : own b c ≡ [] → T (not (sign b)) → T (not (sign c)) → Kind b c
  plain : own b c ≡ itself c ∷ [] → Kind b c
  special : (e : Entry) → In e specials → own b c ≡ e ∷ [] → T (not (sign c)) → Kind b c

module _ (b c : ℕ) where
  spoken : 0 < length (ended b c) → Sayer translation (ended b c) (own b c) → T (found (own b c)) → Kind b c
  unfolding found itself sent
  spoken some (inl n) f = absurd (subst (λ (l : List Entry). T (found l)) n f)
  spoken some (inr o) f =
      ⊎_elim
      (λ m. plain (o.3 ∙ ap (λ (e : Entry). e ∷ []) (m.2 ∙ ap itself (ended-one b c m.0 (sym (ap (λ (e : Entry). e.says) m.2) ∙ o.2)))))
      (λ m. special o.0 m o.3
      (ended-has (λ (x : ℕ). not (sign x)) b c some
      (subst (λ (u : List ℕ). T (every (λ (x : ℕ). not (sign x)) u)) o.2
      (every-at (λ (e : Entry). every (λ (x : ℕ). not (sign x)) e.says) specials signless o.0 m))))
      (translation-of o.0 o.1)

  kind : T (known c) → Kind b c
  unfolding own sign
  kind k =
      ⊎_elim
      (λ n.
      let x = ended-none b c n.0 in
      joins (ap (saying translation) n.0 ∙ pieces.nothing_said ended translation (line-pieces translation lines))
      (subst⁻¹ (λ (z : ℕ). T (not (sign z))) x.0 tt) (subst⁻¹ (λ (z : ℕ). T (not (sign z))) x.1 tt))
      (λ w. spoken (pieces.piece-long ended translation (line-pieces translation lines) (ended b c) w.1) (sayer translation (ended b c))
      (subst⁻¹ (λ (u : List ℕ). T (found (saying translation u))) w.0 k))
      (line-whole translation lines ends b c)

-- no clash, and base characters that are apart
unclashed : (c : ℕ) (base rest : List ℕ) → 0 < length base → T (not (clashes c base)) → Apart (c ∷ []) (base ++ rest)
unfolding clashes
unclashed c [] rest some t = absurd (let no : ⊥ = omega arith in no)
unclashed c (a ∷ base) rest some t = nothing-found (meaning specials (c ∷ a ∷ [])) (λ f. T_not (found (meaning specials (c ∷ a ∷ []))) t f)

clear_apart : (c : ℕ) (base : List ℕ) → Apart (c ∷ []) base → T (not (clashes c base))
unfolding clashes found
clear_apart c [] a = tt
clear_apart c (b ∷ base) a = subst⁻¹ (λ (l : List Entry). T (not (found l))) a tt

sign-apart : (c : ℕ) → T (not (sign c)) → (base : List ℕ) → Apart (c ∷ []) base
sign-apart c t [] = tt
sign-apart c t (b ∷ base) = no_sign c b t

-- where a text begins nothing clashes
pub start-clear : (base : List ℕ) → T (not (clashes 0 base))
unfolding sign
start-clear base = clear_apart 0 base (sign-apart 0 tt base)

two-apart : (e : Entry) → In e specials → (rest : List ℕ) → Apart e.code rest
two-apart e m rest = let w = special-two e m in subst⁻¹ (λ (v : List ℕ). Apart v rest) w.2 tt

two-long : (e : Entry) → In e specials → 0 < length e.code
two-long e m = omega (arith, ap length (special-two e m).2)

-- the entries that are sent for the text behind b, and others after them
abbrev sending : ℕ → List ℕ → List Entry → List Entry
sending b t after = each_after own b t ++ after

module _ (after : List Entry) (ready : (c : ℕ) → Apart (c ∷ []) (codes after)) (apart : AllApart after) where
  -- a character that stands alone makes no sequence with the first that follows
  next-apart : (c : ℕ) (t : List ℕ) → CodedAfter coded_behind c t → Apart (c ∷ []) (codes (sending c t after))
  unfolding each_after coded_behind codes itself sent
  next-apart c [] h = ready c
  next-apart c (d ∷ t) h = by_kind (kind c d (and_left (known d) (not (clashes c (codes (own c d)))) h.0))
    where
      clear : T (not (clashes c (codes (own c d))))
      clear = and_right (known d) (not (clashes c (codes (own c d)))) h.0

      follows : (e : Entry) → own c d ≡ e ∷ [] → 0 < length e.code → Apart (c ∷ []) (codes ((own c d ++ each_after own d t) ++ after))
      follows e x some =
          subst⁻¹ (λ (l : List Entry). Apart (c ∷ []) (codes ((l ++ each_after own d t) ++ after))) x
          (unclashed c e.code (codes (sending d t after)) some
          (subst (λ (u : List ℕ). T (not (clashes c u))) (append-nil e.code) (subst (λ (l : List Entry). T (not (clashes c (codes l)))) x clear)))

      by_kind : Kind c d → Apart (c ∷ []) (codes ((own c d ++ each_after own d t) ++ after))
      by_kind (joins x n m) = sign-apart c n (codes ((own c d ++ each_after own d t) ++ after))
      by_kind (plain x) = follows (itself d) x (omega arith)
      by_kind (special e m x n) = follows e x (two-long e m)

  -- the entries of a text that has codes are apart
  pub coded-apart : (t : List ℕ) (b : ℕ) → CodedAfter coded_behind b t → AllApart (sending b t after)
  unfolding each_after coded_behind codes itself sent
  coded-apart [] b h = apart
  coded-apart (c ∷ t) b h = by_kind (coded-apart t c h.1) (kind b c (and_left (known c) (not (clashes b (codes (own b c)))) h.0))
    where
      front : (l : List Entry) → own b c ≡ l → AllApart ((l ++ each_after own c t) ++ after) → AllApart ((own b c ++ each_after own c t) ++ after)
      front l x a = subst⁻¹ (λ (k : List Entry). AllApart ((k ++ each_after own c t) ++ after)) x a

      by_kind : AllApart (sending c t after) → Kind b c → AllApart ((own b c ++ each_after own c t) ++ after)
      by_kind a (joins x n m) = front [] x a
      by_kind a (plain x) = front (itself c ∷ []) x (next-apart c t h.1, a)
      by_kind a (special e m x n) = front (e ∷ []) x (two-apart e m (codes (sending c t after)), a)

-- and a text whose characters are known has codes if its entries are apart, and nothing before it clashes
module _ (b c : ℕ) (rest : List Entry) where
  -- the first character does not clash, and nothing clashes with it
  record Parted : Type 0 where
    pub clear : T (not (clashes b (codes (own b c))))
    pub next : T (not (clashes c (codes rest)))
    pub apart : AllApart rest

  parted : Kind b c → AllApart (own b c ++ rest) → T (not (clashes b (codes (own b c ++ rest)))) → Parted
  unfolding codes clashes itself sent
  parted (joins x n m) a k =
      record {
        clear = subst⁻¹ (λ (l : List Entry). T (not (clashes b (codes l)))) x tt;
        next = clear_apart c (codes rest) (sign-apart c m (codes rest));
        apart = subst (λ (l : List Entry). AllApart (l ++ rest)) x a;
      }
  parted (plain x) a k =
      let s = subst (λ (l : List Entry). AllApart (l ++ rest)) x a in
      record {
        clear = subst⁻¹ (λ (l : List Entry). T (not (clashes b (codes l)))) x (subst (λ (l : List Entry). T (not (clashes b (codes (l ++ rest))))) x k);
        next = clear_apart c (codes rest) s.0;
        apart = s.1;
      }
  parted (special e m x n) a k =
      let w = special-two e m in
      record {
        clear = subst⁻¹ (λ (l : List Entry). T (not (clashes b (codes l)))) x
            (subst⁻¹ (λ (u : List ℕ). T (not (clashes b (u ++ [])))) w.2
            (subst (λ (u : List ℕ). T (not (clashes b (u ++ codes rest)))) w.2 (subst (λ (l : List Entry). T (not (clashes b (codes (l ++ rest))))) x k)));
        next = clear_apart c (codes rest) (sign-apart c n (codes rest));
        apart = (subst (λ (l : List Entry). AllApart (l ++ rest)) x a).1;
      }

module _ (after : List Entry) where
  pub apart-coded : (t : List ℕ) (b : ℕ) → CodedBelow (alone known) t (length t) → AllApart (sending b t after) → T (not (clashes b (codes (sending b t after))))
      → CodedAfter coded_behind b t
  unfolding each_after coded_behind
  apart-coded [] b h a k = tt
  apart-coded (c ∷ t) b h a k =
      let joined = append_assoc (own b c) (each_after own c t) after in
      let p = parted b c (sending c t after) (kind b c (h 0 (omega arith))) (subst AllApart joined a)
      (subst (λ (l : List Entry). T (not (clashes b (codes l)))) joined k) in (
        and_both (known c) (not (clashes b (codes (own b c)))) (h 0 (omega arith)) p.clear,
        apart-coded t c (coded-rest known c t h) p.apart p.next,
      )
