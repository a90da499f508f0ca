-- What an indicator of ours takes, with the values that it announces.
-- Assumes nothing.
use mathlib.Core.Path.{◌≡◌, refl, sym, ap, subst⁻¹, ◌∙◌}
use mathlib.Core.Bool.{Bool, true, false}
use mathlib.Core.List.{List, [], ◌∷◌, ◌++◌}
use Prim.Native.Nat.{ℕ, zero, suc, ◌+◌, ◌*◌, ◌≤◌, ◌<◌}
use native.Mathlib.Nat.{add-zero, zero-add}
use native.Mathlib.Omega.{arith}
use lib.Dec.{T, eqb}
use lib.ListN.{length, take, drop, get_or, length-append, length-drop}
use lib.Seq.{drop-drop}
use borrow.Author.Tests.{eqb-true, eqb-false, ne_eqb}
use Rattle.codes.specs.Chain.{Entry, codes}
use Rattle.codes.proofs.LowBits.{length-low}
use Rattle.pseudo_binary.specs.Table.{SPACE, SLASH, Kind, values, spaces, slashes, is_of, coded}
use Rattle.pseudo_binary.specs.Writer.{kind, run, besides, ours_after, ours, Alike}
use Rattle.pseudo_binary.proofs.Length.{each}
use Rattle.pseudo_binary_writer.specs.Steps.Sending.{Between, ExtentOf, FirstIndicatorOf}
use Rattle.pseudo_binary_writer.specs.declared.Extent.{Extent}
use Rattle.pseudo_binary_writer.specs.declared.Sent.{Sent}
use Rattle.pseudo_binary.proofs.Characters.{value-range, of-kind, kind-of}
use Rattle.pseudo_binary.proofs.Size.{besides-each}
use Rattle.pseudo_binary_writer.proofs.Ranges.{spaces-between, slashes-between}
use Rattle.pseudo_binary_writer.proofs.Opening.{value-first, space-first, slash-first}

-- the values that were announced, one after the other
value-bits : (n : ℕ) (t : List ℕ) → n ≤ length t → Alike values (take n t) → length (codes (ours_after n t)) ≡ 6 * n + length (codes (ours (drop n t)))
unfolding ours_after ours each
value-bits zero t h a = omega arith
value-bits (suc n) [] h a = absurd (let none : ⊥ = omega arith in none)
value-bits (suc n) (c ∷ t) h a =
    let e : codes (besides (kind c) c ++ ours_after n t) ≡ codes (besides values c ++ ours_after n t) =
    ap (λ (k : Kind). codes (besides k c ++ ours_after n t)) (of-kind values c a.0) in
    omega (arith, ap length e, besides-each values c (ours_after n t), value-bits n t (omega arith) a.1)

-- a character with a code that is neither space nor slash is of kind values
pub else-value : (c : ℕ) → T (coded c) → (c ≡ SPACE → ⊥) → (c ≡ SLASH → ⊥) → is_of values c ≡ true
unfolding kind is_of
else-value c t a b = kind-of values c t (simp (ne_eqb c SPACE a, ne_eqb c SLASH b))

-- what an indicator of ours takes with the values that it announces, and the rest, are the whole
pub record Parted (t : List ℕ) (e : Extent) : Type 0 where
  pub sum : length (codes (ours t)) ≡ e.bits + length (codes (ours (drop e.count t)))
  pub few : e.bits ≤ 776
  pub some : 1 ≤ e.count
  pub within : e.count ≤ length t

pub parted : (t : List ℕ) (e : Extent) → ExtentOf t e → Parted t e
unfolding codes
parted t e x =
    let r : Sent = x.sent in
    let f : FirstIndicatorOf t r = x.first in
    let b : e.bits ≡ r.width + r.values * 6 = x.width in
    let n : e.count ≡ r.count + r.values = x.says in
    let u : List ℕ = drop r.count t in
    let later : drop r.values u ≡ drop e.count t = drop-drop r.values r.count t ∙ ap (λ (m : ℕ). drop m t) (sym n) in
    record {
      sum = omega (
        arith,
        b,
        ap (λ (es : List Entry). length (codes es)) f.first,
        length-append f.entry.code (codes (ours_after r.values u)),
        ap length f.code,
        length-low r.width r.bits,
        value-bits r.values u (omega (arith, f.within, length-drop r.count t)) f.alike,
        ap (λ (l : List ℕ). length (codes (ours l))) later,
      );
      few = omega (arith, b, f.long, f.few);
      some = omega (arith, n, f.some);
      within = omega (arith, n, f.within);
    }

-- a space or a slash is below the values, and a kind by itself
pub low-kind : (c : ℕ) → T (coded c) → c < 63 → (k : Kind) × Between k c c
low-kind c x l = pick (eqb c SPACE) refl (eqb c SLASH) refl
  where
    pick : (a : Bool) → eqb c SPACE ≡ a → (b : Bool) → eqb c SLASH ≡ b → (k : Kind) × Between k c c
    pick true p b q = (spaces, subst⁻¹ (λ (d : ℕ). Between spaces d d) (eqb-true c SPACE p) spaces-between)
    pick false p true q = (slashes, subst⁻¹ (λ (d : ℕ). Between slashes d d) (eqb-true c SLASH q) slashes-between)
    pick false p false q =
        absurd (let none : ⊥ = omega (arith, (value-range c (else-value c x (eqb-false c SPACE p) (eqb-false c SLASH q))).0) in none)

-- at place i of a text
module _ (t : List ℕ) (i : ℕ) (h : i < length t) (x : T (coded (get_or t i 0))) (n : ℕ) where
  pub repeat-extent : get_or t i 0 < 63 → ((k : Kind) → Between k (get_or t i 0) (get_or t i 0) → n ≡ run k 16 (drop i t))
      → ExtentOf (drop i t) (record { bits = 6; count = n })
  repeat-extent l e = pick (eqb c SPACE) refl (eqb c SLASH) refl
    where
      c : ℕ
      c = get_or t i 0

      pick : (a : Bool) → eqb c SPACE ≡ a → (b : Bool) → eqb c SLASH ≡ b → ExtentOf (drop i t) (record { bits = 6; count = n })
      pick true p b q =
          let same : c ≡ SPACE = eqb-true c SPACE p in
          let all : n ≡ run spaces 16 (drop i t) = e spaces (subst⁻¹ (λ (d : ℕ). Between spaces d d) same spaces-between) in
          record { sent = _; first = space-first t i h n same all; width = refl; says = sym (add-zero n) }
      pick false p true q =
          let same : c ≡ SLASH = eqb-true c SLASH q in
          let all : n ≡ run slashes 16 (drop i t) = e slashes (subst⁻¹ (λ (d : ℕ). Between slashes d d) same slashes-between) in
          record { sent = _; first = slash-first t i h n same all; width = refl; says = sym (add-zero n) }
      pick false p false q =
          let high : 63 ≤ c = (value-range c (else-value c x (eqb-false c SPACE p) (eqb-false c SLASH q))).0 in
          absurd (let none : ⊥ = omega arith in none)

  pub values-extent : 63 ≤ get_or t i 0 → n ≡ run values 128 (drop i t) → ExtentOf (drop i t) (record { bits = 8 + 6 * n; count = n })
  values-extent l e =
      record {
        sent = _;
        first = value-first t i h n (else-value (get_or t i 0) x (omega arith) (omega arith)) e;
        width = let b : 8 + 6 * n ≡ 8 + n * 6 = omega arith in b;
        says = sym (zero-add n);
      }
