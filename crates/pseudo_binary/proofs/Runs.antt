-- Runs of one kind: an indicator with what it counts, in front of what can be read.
-- Assumes nothing.
use mathlib.Core.Path.{◌≡◌, refl, sym, ap, ap₂, subst⁻¹, ◌∙◌}
use mathlib.Core.Bool.{true}
use mathlib.Core.List.{List, [], ◌∷◌, ◌++◌}
use Prim.Native.Nat.{ℕ, suc, ◌<◌}
use native.Mathlib.Nat.{zero-add}
use lib.ListN.{replicate}
use borrow.Author.Tests.{eqb-true}
use Rattle.codes.specs.Chain.{Entry, state_after, Row, texts}
use Rattle.pseudo_binary.specs.Table.{SPACE, SLASH, Kind, values, spaces, slashes, is_of, value_of, indicator, most, six, scheme}
use Rattle.pseudo_binary.specs.Writer.{besides, back_as, comes_back}
use Rattle.pseudo_binary.proofs.Characters.{value_of-back, value_of-small}
use Rattle.pseudo_binary.proofs.Entries.{indicator-in, six-in, after-six}

-- what an indicator that counts j says, and what it announces
unfoldable pub said : Kind → ℕ → List ℕ
said values j = []
said spaces j = replicate j SPACE
said slashes j = replicate j SLASH

unfoldable pub announced : Kind → ℕ → ℕ
announced values j = j
announced spaces j = 0
announced slashes j = 0

-- the entries build what the text comes back as, where an indicator of kind k before them counts its first j characters
pub record Counted (k : Kind) (j : ℕ) (t : List ℕ) (es : List Entry) : Type 0 where
  pub row : Row scheme (announced k j) es 0
  pub says : said k j ++ texts es ≡ comes_back t

-- where it counts none its kind does not matter
none-announced : (k : Kind) → announced k 0 ≡ 0
unfolding announced
none-announced values = refl
none-announced spaces = refl
none-announced slashes = refl

none_said : (k : Kind) (t : List ℕ) → said k 0 ++ t ≡ t
unfolding said
none_said values t = refl
none_said spaces t = refl
none_said slashes t = refl

pub counted_none : (k : Kind) {t : List ℕ} {es : List Entry} → Row scheme 0 es 0 → texts es ≡ comes_back t → Counted k 0 t es
counted_none k {t} {es} r s = record {
  row = subst⁻¹ (λ (n : ℕ). Row scheme n es 0) (none-announced k) r;
  says = none_said k (texts es) ∙ s;
}

-- one character that it counts
row_one : (k : Kind) (j c : ℕ) (es : List Entry) → Row scheme (announced k j) es 0 → Row scheme (announced k (suc j)) (besides k c ++ es) 0
unfolding announced besides
row_one values j c es h =
    (six-in j (value_of c) (value_of-small c), subst⁻¹ (λ (n : ℕ). Row scheme n es 0) (after-six j (value_of c)) h)
row_one spaces j c es h = h
row_one slashes j c es h = h

says-one : (k : Kind) (j c : ℕ) (t : List ℕ) (es : List Entry) → is_of k c ≡ true → said k j ++ texts es ≡ comes_back t
    → said k (suc j) ++ texts (besides k c ++ es) ≡ comes_back (c ∷ t)
unfolding said besides six texts is_of back_as comes_back
says-one values j c t es x h = ap₂ (λ (y : ℕ) (l : List ℕ). y ∷ l) (value_of-back c x) h
says-one spaces j c t es x h = ap₂ (λ (y : ℕ) (l : List ℕ). y ∷ l) (ap back_as (sym (eqb-true c SPACE x))) h
says-one slashes j c t es x h = ap₂ (λ (y : ℕ) (l : List ℕ). y ∷ l) (ap back_as (sym (eqb-true c SLASH x))) h

pub counted-one : {k : Kind} {j : ℕ} {t : List ℕ} {es : List Entry} (c : ℕ) → is_of k c ≡ true → Counted k j t es
    → Counted k (suc j) (c ∷ t) (besides k c ++ es)
counted-one {k} {j} {t} {es} c x h = record { row = row_one k j c es h.row; says = says-one k j c t es x h.says }

-- the indicator itself
after-indicator : (k : Kind) (j : ℕ) → state_after 0 (indicator k j) ≡ announced k (suc j)
unfolding announced indicator state_after
after-indicator values j = zero-add (suc j)
after-indicator spaces j = refl
after-indicator slashes j = refl

indicator-says : (k : Kind) (j : ℕ) → (indicator k j).says ≡ said k (suc j)
unfolding said indicator
indicator-says values j = refl
indicator-says spaces j = refl
indicator-says slashes j = refl

pub counted-all : {k : Kind} {j : ℕ} {t : List ℕ} {es : List Entry} (l : Kind) → j < most k → Counted k (suc j) t es
    → Counted l 0 t (indicator k j ∷ es)
unfolding texts
counted-all {k} {j} {t} {es} l m h =
    counted_none l (indicator-in k j m, subst⁻¹ (λ (n : ℕ). Row scheme n es 0) (after-indicator k j) h.row)
    (ap (λ (s : List ℕ). s ++ texts es) (indicator-says k j) ∙ h.says)
