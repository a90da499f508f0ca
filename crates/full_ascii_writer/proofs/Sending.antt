-- The codes of a text as the writer sends them, one after the other.
-- Assumes nothing.
use mathlib.Core.Path.{◌≡◌, refl, sym, ap, ap₂, subst, subst⁻¹, subst₂, ◌∙◌}
use mathlib.Core.Bool.{Bool, true, false, cond, ◌&&◌}
use mathlib.Core.List.{List, [], ◌∷◌, ◌++◌}
use Prim.Native.Nat.{ℕ, suc, ◌+◌, ◌-◌, ◌^◌, ◌≤◌, ◌<◌}
use native.Mathlib.Nat.{add-zero}
use native.Mathlib.Numerals.{add-one}
use native.Mathlib.Omega.{arith}
use lib.Dec.{T, eqb, lit≤, lit<}
use lib.ListN.{length, drop, get_or, length-drop, drop_of_length-le}
use lib.Seq.{drop-cons, drop-drop, get_or-drop}
use Rattle.bits.specs.Word.{bit}
use Rattle.codes.specs.Chain.{Entry, codes}
use Rattle.codes.specs.Pack.{low}
use Rattle.full_ascii.specs.Table.{HT, LF, CR, six, seven, special, pair}
use Rattle.full_ascii.specs.Writer.{coded, AllCoded, own, ours, LineEnd}
use Rattle.codes.specs.Steps.Sending.{Joinable}
use Rattle.codes.specs.declared.Sent.{Sent}
use Rattle.codes.proofs.LowBits.{length-low}
use Rattle.full_ascii_writer.specs.Steps.Sending.{OwnOf, codes_from, FirstCodesOf}
use Rattle.full_ascii.proofs.Entries.{Kind, kind, tab, feed, return, lower, upper, own-lower, own-upper}
use Rattle.full_ascii.proofs.Ours.{line-end}

abbrev sent : ℕ → ℕ → Sent
sent bits width = record { bits = bits; width = width; count = 1 }

-- a character's own code: the number and the width that it must have
sends-own : (c number long : ℕ) {bits width : ℕ} → (own c).code ≡ low long number → number < 2 ^ long → long ≤ 9 → bits ≡ number → width ≡ long
    → OwnOf c (sent bits width)
sends-own c number long e f k x y =
    subst₂ (λ (bits width : ℕ). OwnOf c (sent bits width)) (sym x) (sym y) (record { same = e; fits = f; long = k; count = refl })

-- that of a control character
sends-nine : (c d number : ℕ) {bits width : ℕ} → (own d).code ≡ low 9 number → number < 512 → c ≡ d → bits ≡ number → width ≡ 9 → OwnOf c (sent bits width)
sends-nine c d number e f x = sends-own c number 9 (ap (λ (z : ℕ). (own z).code) x ∙ e) f (lit≤ tt)

module _ (c : ℕ) {bits width : ℕ} where
  pub sends-tab : c ≡ HT → bits ≡ 508 → width ≡ 9 → OwnOf c (sent bits width)
  unfolding own special low bit
  sends-tab = sends-nine c HT 508 refl (lit< tt)

  pub sends-return : c ≡ CR → bits ≡ 509 → width ≡ 9 → OwnOf c (sent bits width)
  unfolding own special low bit
  sends-return = sends-nine c CR 509 refl (lit< tt)

  pub sends-feed : c ≡ LF → bits ≡ 510 → width ≡ 9 → OwnOf c (sent bits width)
  unfolding own special low bit
  sends-feed = sends-nine c LF 510 refl (lit< tt)

  pub sends_lower : 32 ≤ c → c < 64 → bits ≡ c - 32 → width ≡ 6 → OwnOf c (sent bits width)
  unfolding six
  sends_lower h k = sends-own c (c - 32) 6 (ap (λ (e : Entry). e.code) (own-lower c h k)) (omega arith) (lit≤ tt)

  pub sends-upper : 64 ≤ c → c < 127 → bits ≡ c → width ≡ 7 → OwnOf c (sent bits width)
  unfolding seven
  sends-upper h k = sends-own c c 7 (ap (λ (e : Entry). e.code) (own-upper c h)) (omega arith) (lit≤ tt)

-- no other control character has a code, and how high the others go
pub no_other : (c : ℕ) → T (coded c) → c < 32 → (c ≡ HT → ⊥) → (c ≡ CR → ⊥) → (c ≡ LF → ⊥) → ⊥
no_other c t h a r b = left (kind c t)
  where
    left : Kind c → ⊥
    left (tab e) = a e
    left (feed e) = b e
    left (return e) = r e
    left (lower j k) = omega arith
    left (upper j k) = omega arith

pub coded-most : (c : ℕ) → T (coded c) → c ≤ 126
coded-most c t = most (kind c t)
  where
    most : Kind c → c ≤ 126
    most (tab e) = omega (arith, e)
    most (feed e) = omega (arith, e)
    most (return e) = omega (arith, e)
    most (lower j k) = omega arith
    most (upper j k) = omega arith

pub plain-short : (c : ℕ) (r : Sent) → T (coded c) → 32 ≤ c → OwnOf c r → r.width ≤ 7
unfolding six seven low bit
plain-short c r t h o = short (kind c t)
  where
    wide : length (own c).code ≡ r.width
    wide = ap length o.same ∙ length-low r.width r.bits

    short : Kind c → r.width ≤ 7
    short (tab e) = omega (arith, e)
    short (feed e) = omega (arith, e)
    short (return e) = omega (arith, e)
    short (lower j k) = omega (arith, wide, ap (λ (e : Entry). length e.code) (own-lower c j k))
    short (upper j k) = omega (arith, wide, ap (λ (e : Entry). length e.code) (own-upper c j))

pub plain-joinable : (t : List ℕ) (i : ℕ) (r : Sent) → AllCoded t → i < length t → 32 ≤ get_or t i 0 → OwnOf (get_or t i 0) r → Joinable 8 r
plain-joinable t i r all h p o =
    record { fits = o.fits; long = omega (arith, plain-short (get_or t i 0) r (all i h) p o); count = omega (arith, o.count) }

-- a line end at place i of the text
module _ (t : List ℕ) (i : ℕ) where
  pub end-first : LineEnd (drop i t) → get_or t i 0 ≡ CR
  end-first e =
      ap (λ (k : ℕ). get_or t k 0) (sym (add-zero i)) ∙ sym (get_or-drop i t 0 0) ∙ ap (λ (l : List ℕ). get_or l 0 0) e.1

  pub end-size : LineEnd (drop i t) → 2 ≤ length t - i
  end-size e = omega (arith, length-drop i t, ap length e.1)

-- the first code of ours
pair-codes : (t : List ℕ) → LineEnd t → codes (ours t) ≡ low 9 511 ++ codes (ours (drop 2 t))
unfolding ours codes pair special low bit
pair-codes t e =
    subst⁻¹ (λ (l : List ℕ). codes (ours l) ≡ low 9 511 ++ codes (ours (drop 2 l))) e.1 refl

pair-first : (t : List ℕ) (i : ℕ) → LineEnd (drop i t) → FirstCodesOf t i 9 (record { bits = 511; width = 9; count = 2 })
pair-first t i e = record {
  same = pair-codes (drop i t) e ∙ ap (λ (l : List ℕ). low 9 511 ++ codes (ours l)) (drop-drop 2 i t);
  fits = lit< tt;
  long = lit≤ tt;
  some = lit≤ tt;
  within = omega (arith, end-size t i e);
}

pub first-pair : (t : List ℕ) (i : ℕ) {bits width count : ℕ} → LineEnd (drop i t) → bits ≡ 511 → width ≡ 9 → count ≡ 2
    → FirstCodesOf t i 9 (record { bits = bits; width = width; count = count })
first-pair t i {bits} {width} e f g h =
    subst⁻¹ (λ (n : ℕ). FirstCodesOf t i 9 (record { bits = bits; width = width; count = n })) h
    (subst₂ (λ (b w : ℕ). FirstCodesOf t i 9 (record { bits = b; width = w; count = 2 })) (sym f) (sym g) (pair-first t i e))

ours-own : (c : ℕ) (t : List ℕ) → (LineEnd (c ∷ t) → ⊥) → ours (c ∷ t) ≡ own c ∷ ours t
unfolding ours
ours-own c [] h = refl
ours-own c (d ∷ t) h = pick (eqb c CR && eqb d LF) refl
  where
    pick : (b : Bool) → (eqb c CR && eqb d LF) ≡ b → cond b (pair ∷ ours t) (own c ∷ ours (d ∷ t)) ≡ own c ∷ ours (d ∷ t)
    pick true x = let l = line-end c d x in absurd (h (t, ap₂ (λ (y z : ℕ). y ∷ z ∷ t) l.0 l.1))
    pick false x = refl

own-codes : (c : ℕ) (t : List ℕ) (r : Sent) → (LineEnd (c ∷ t) → ⊥) → OwnOf c r → codes (ours (c ∷ t)) ≡ low r.width r.bits ++ codes (ours t)
unfolding codes
own-codes c t r h o = ap codes (ours-own c t h) ∙ ap (λ (l : List ℕ). l ++ codes (ours t)) o.same

module _ (t : List ℕ) (i : ℕ) (r : Sent) (h : i < length t) (o : OwnOf (get_or t i 0) r) where
  pub first-own : (LineEnd (drop i t) → ⊥) → FirstCodesOf t i 9 r
  first-own e = record {
    same = ap (λ (l : List ℕ). codes (ours l)) (drop-cons t i 0 h)
        ∙ own-codes (get_or t i 0) (drop (suc i) t) r (subst (λ (l : List ℕ). LineEnd l → ⊥) (drop-cons t i 0 h) e) o
        ∙ ap (λ (k : ℕ). low r.width r.bits ++ codes (ours (drop k t))) (sym (ap (λ (n : ℕ). i + n) o.count ∙ add-one i));
    fits = o.fits;
    long = o.long;
    some = omega (arith, o.count);
    within = omega (arith, o.count);
  }

  -- no line end begins with a plain character, and its code has seven bits at most
  pub first_plain : T (coded (get_or t i 0)) → 32 ≤ get_or t i 0 → FirstCodesOf t i 7 r
  first_plain c p =
      let first = first-own (λ e. omega (arith, end-first t i e)) in
      record { same = first.same; fits = first.fits; long = plain-short (get_or t i 0) r c p o; some = first.some; within = first.within }

pub codes-end : (t : List ℕ) (i : ℕ) → length t ≤ i → codes_from t i ≡ []
unfolding ours codes
codes-end t i h = ap (λ (l : List ℕ). codes (ours l)) (drop_of_length-le t h)
