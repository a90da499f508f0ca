-- What the reading of a scheme rests on: no code begins another, and the fill is never a code. A computed test of its tables gives it.
-- Assumes nothing.
use mathlib.Core.Path.{◌≡◌, sym, ◌∙◌, subst}
use mathlib.Core.Bool.{Bool, true, not, ◌&&◌}
use mathlib.Core.Logic.{◌⊎◌, inl, inr, ⊎_elim}
use mathlib.Core.List.Memᴰ
use mathlib.Core.List.{List, [], ◌∷◌}
use Prim.Native.Nat.{ℕ, ◌<◌}
use lib.Dec.{T, T_not, ltb, ltb→lt}
use lib.ListN.{length}
use Rattle.codes.specs.Chain.{Entry, Scheme, In, Fill, Begins}
use Rattle.bits.proofs.Said.{and_left, and_right}
use Rattle.codes.proofs.EveryElement.{every, every-at}
use Rattle.codes.proofs.Beginning.{begun, begins-begun, either-begins}
use Rattle.codes.proofs.Fill.{fills, fill-fills, fill-front}

pub record Laws (scheme : Scheme) : Type 0 where
  -- two entries of one table whose codes begin the same bits are the same
  pub alone : (m : ℕ) (d e : Entry) → In d (scheme.table m) → In e (scheme.table m) → (bs : List ℕ) → Begins d.code bs
      → Begins e.code bs → d ≡ e
  pub has-bits : (m : ℕ) (e : Entry) → In e (scheme.table m) → 0 < length e.code
  -- where no value is announced, no code begins a fill
  pub no-fill : (e : Entry) → In e (scheme.table 0) → (f : List ℕ) → Fill scheme.unused f → Begins e.code f → ⊥

-- neither code begins the other
unfoldable pub parted : Entry → Entry → Bool
parted d e = not (begun d.code e.code) && not (begun e.code d.code)

-- each code has bits, and no code begins another
unfoldable pub apart : List Entry → Bool
apart [] = true
apart (e ∷ es) = ltb 0 (length e.code) && (every (parted e) es && apart es)

-- no code is a fill
unfoldable pub unfilled : ℕ → List Entry → Bool
unfilled unused es = every (λ (e : Entry). not (fills unused e.code)) es

pub parted-never : (d e : Entry) → T (parted d e) → (bs : List ℕ) → Begins d.code bs → Begins e.code bs → ⊥
unfolding parted
parted-never d e t bs p q =
    let a : Bool = not (begun d.code e.code) in
    let b : Bool = not (begun e.code d.code) in
    ⊎_elim (λ h. T_not (begun d.code e.code) (and_left a b t) (begins-begun d.code e.code h))
    (λ h. T_not (begun e.code d.code) (and_right a b t) (begins-begun e.code d.code h))
    (either-begins d.code e.code p.0 q.0 (sym p.1 ∙ q.1))

-- the three tests at the head of a table
apart-bits : (e : Entry) (es : List Entry) → T (apart (e ∷ es)) → T (ltb 0 (length e.code))
unfolding apart
apart-bits e es t = and_left (ltb 0 (length e.code)) (every (parted e) es && apart es) t

apart-rest : (e : Entry) (es : List Entry) → T (apart (e ∷ es)) → T (every (parted e) es && apart es)
unfolding apart
apart-rest e es t = and_right (ltb 0 (length e.code)) (every (parted e) es && apart es) t

apart-tail : (e : Entry) (es : List Entry) → T (apart (e ∷ es)) → T (apart es)
apart-tail e es t = and_right (every (parted e) es) (apart es) (apart-rest e es t)

-- the head of a table and another entry of it begin no bits in common
head_never : (e : Entry) (es : List Entry) → T (apart (e ∷ es)) → (d : Entry) → In d es
    → (bs : List ℕ) → Begins e.code bs → Begins d.code bs → ⊥
head_never e es t d h =
    parted-never e d (every-at (parted e) es (and_left (every (parted e) es) (apart es) (apart-rest e es t)) d h)

apart-alone : (es : List Entry) → T (apart es) → (c d : Entry) → In c es → In d es
    → (bs : List ℕ) → Begins c.code bs → Begins d.code bs → c ≡ d
apart-alone [] t c d hc hd bs p q = absurd (Memᴰ.not-nil hc)
apart-alone (e ∷ es) t c d hc hd bs p q =
    meet (λ jc jd. apart-alone es (apart-tail e es t) c d jc jd bs p q) (Memᴰ.cases_cons hc) (Memᴰ.cases_cons hd)
  where
    meet : (In c es → In d es → c ≡ d) → (c ≡ e) ⊎ In c es → (d ≡ e) ⊎ In d es → c ≡ d
    meet below (inl x) (inl y) = x ∙ sym y
    meet below (inl x) (inr k) = absurd (head_never e es t d k bs (subst (λ (z : Entry). Begins z.code bs) x p) q)
    meet below (inr k) (inl y) = absurd (head_never e es t c k bs (subst (λ (z : Entry). Begins z.code bs) y q) p)
    meet below (inr j) (inr k) = below j k

apart-has-bits : (es : List Entry) → T (apart es) → (d : Entry) → In d es → 0 < length d.code
apart-has-bits [] t d h = absurd (Memᴰ.not-nil h)
apart-has-bits (e ∷ es) t d h =
    ⊎_elim
    (λ x. subst (λ (z : Entry). 0 < length z.code) (sym x) (ltb→lt 0 (length e.code) (apart-bits e es t)))
    (apart-has-bits es (apart-tail e es t) d) (Memᴰ.cases_cons h)

unfilled-never : (unused : ℕ) (es : List Entry) → T (unfilled unused es) → (e : Entry) → In e es → (f : List ℕ) → Fill unused f
    → Begins e.code f → ⊥
unfolding unfilled
unfilled-never unused es t e h f fill b =
    T_not (fills unused e.code) (every-at (λ (z : Entry). not (fills unused z.code)) es t e h)
    (fill-fills unused e.code (fill-front unused e.code b.0 (subst (Fill unused) b.1 fill)))

-- the tests give the laws
pub tested : (scheme : Scheme) → ((m : ℕ) → T (apart (scheme.table m))) → T (unfilled scheme.unused (scheme.table 0)) → Laws scheme
tested scheme a u = record {
  alone = λ m. apart-alone (scheme.table m) (a m);
  has-bits = λ m. apart-has-bits (scheme.table m) (a m);
  no-fill = unfilled-never scheme.unused (scheme.table 0) u;
}
