-- What our writer builds says its text and is a row of codes; and how many bits it takes, a character in front at most its own code.
-- Assumes nothing.
use mathlib.Core.Path.{◌≡◌, refl, sym, ap, ap₂, subst⁻¹, subst₂}
use mathlib.Core.Bool.{Bool, true, false, cond, ◌&&◌}
use mathlib.Core.List.{List, [], ◌∷◌, ◌++◌}
use Prim.Native.Nat.{ℕ, ◌+◌, ◌≤◌}
use native.Mathlib.Omega.{arith}
use lib.Dec.{T, eqb, eqb→eq}
use lib.ListN.{length, length-append}
use Rattle.bits.specs.Word.{bit}
use Rattle.codes.specs.Chain.{Entry, Row, codes, texts}
use Rattle.codes.specs.Pack.{low}
use Rattle.codes.proofs.CodedTexts.{coded-rest}
use Rattle.bits.proofs.Said.{and_left, and_right}
use Rattle.codes.proofs.SingleTable.{row_one}
use Rattle.full_ascii.specs.Table.{LF, CR, special, pair, scheme}
use Rattle.full_ascii.specs.Writer.{coded, AllCoded, own, ours}
use Rattle.full_ascii.proofs.Table.{mutes}
use Rattle.full_ascii.proofs.Entries.{own_in, own-says, pair-in}

pub line-end : (c d : ℕ) → (eqb c CR && eqb d LF) ≡ true → (c ≡ CR) × (d ≡ LF)
line-end c d x =
    let both : T (eqb c CR && eqb d LF) = subst⁻¹ T x tt in
    (eqb→eq c CR (and_left (eqb c CR) (eqb d LF) both), eqb→eq d LF (and_right (eqb c CR) (eqb d LF) both))

module _ (P : List ℕ → List Entry → Type 0) (none : P [] []) (one : (c : ℕ) (t : List ℕ) (es : List Entry) → P t es → P (c ∷ t) (own c ∷ es))
    (two : (t : List ℕ) (es : List Entry) → P t es → P (CR ∷ LF ∷ t) (pair ∷ es)) where
  either-cut : (b : Bool) (c d : ℕ) (t : List ℕ) (es ds : List Entry) → (eqb c CR && eqb d LF) ≡ b → P t es → P (d ∷ t) ds
      → P (c ∷ d ∷ t) (cond b (pair ∷ es) (own c ∷ ds))
  either-cut true c d t es ds x h k =
      let l = line-end c d x in
      subst₂ (λ (y z : ℕ). P (y ∷ z ∷ t) (pair ∷ es)) (sym l.0) (sym l.1) (two t es h)
  either-cut false c d t es ds x h k = one c (d ∷ t) ds k

  -- what holds of each way to cut holds of ours
  pub ours-has : (t : List ℕ) → P t (ours t)
  unfolding ours
  ours-has [] = none
  ours-has (c ∷ []) = one c [] [] none
  ours-has (c ∷ d ∷ t) = either-cut (eqb c CR && eqb d LF) c d t (ours t) (ours (d ∷ t)) refl (ours-has t) (ours-has (d ∷ t))

pub ours-says : (t : List ℕ) → texts (ours t) ≡ t
unfolding texts pair special
ours-says =
    ours-has (λ (t : List ℕ) (es : List Entry). texts es ≡ t) refl
    (λ c t es h. ap₂ (λ (a b : List ℕ). a ++ b) (own-says c) h) (λ t es h. ap (λ (l : List ℕ). CR ∷ LF ∷ l) h)

pub ours-row : (t : List ℕ) → AllCoded t → Row scheme 0 (ours t) 0
ours-row =
    ours-has (λ (t : List ℕ) (es : List Entry). AllCoded t → Row scheme 0 es 0) (λ h. refl)
    (λ c t es k h. row_one mutes 7 es (own_in c (h 0 (omega arith))) (k (coded-rest coded c t h)))
    (λ t es k h. row_one mutes 7 es pair-in (k (coded-rest coded LF t (coded-rest coded CR (LF ∷ t) h))))

-- how many bits the writer takes for a text
unfoldable pub size : List ℕ → ℕ
size t = length (codes (ours t))

pub size-feed : (t : List ℕ) → size (LF ∷ t) ≡ 9 + size t
unfolding size ours codes own special low bit
size-feed [] = refl
size-feed (c ∷ t) = omega arith

cut-size : (b : Bool) (c d : ℕ) (t : List ℕ) → (eqb c CR && eqb d LF) ≡ b
    → length (codes (cond b (pair ∷ ours t) (own c ∷ ours (d ∷ t)))) ≤ length (own c).code + size (d ∷ t)
unfolding size codes own pair special low bit
cut-size true c d t x =
    let l = line-end c d x in
    subst₂ (λ (y z : ℕ). length (codes (pair ∷ ours t)) ≤ length (own y).code + size (z ∷ t)) (sym l.0) (sym l.1)
    (omega (arith, size-feed t))
cut-size false c d t x = omega (arith, length-append (own c).code (codes (ours (d ∷ t))))

-- a character in front costs at most its own code
pub size-own : (c : ℕ) (t : List ℕ) → size (c ∷ t) ≤ length (own c).code + size t
unfolding size ours codes
size-own c [] = omega (arith, length-append (own c).code [])
size-own c (d ∷ t) = cut-size (eqb c CR && eqb d LF) c d t refl
