-- The table of differences: one computed test of all its entries, and what it says.
-- Assumes nothing.
use mathlib.Core.Bool.{Bool, true, false, cond, not}
use mathlib.Core.List.{List, [], ◌∷◌, map, cons≢nil}
use mathlib.Core.Path.{◌≡◌, refl, ap, ap₂, ◌∙◌}
use Prim.Native.Nat.{ℕ, suc}
use lib.Dec.{eqb}
use lib.ListN.{length}
use borrow.Author.Tests.{eqb-true}
use Rattle.bits.specs.Numbers.{numbers}
use Rattle.repair.specs.Table.{Leaving, leavings, nothing, entry_in, entries_in, entries, how_many, HasRule}

-- ---- the test

-- the differences, from this one on, whose entries are not theirs
unfoldable pub wrong : List Leaving → ℕ → List ℕ → List ℕ
wrong ways difference [] = []
wrong ways difference (entry ∷ more) =
    let further = wrong ways (suc difference) more in
    cond (eqb entry (entry_in ways difference)) further (difference ∷ further)

-- these, how many entries there are, how many name bits, and how many have none
unfoldable pub tested : List ℕ → List ℕ × ℕ × ℕ × ℕ
tested table =
    (wrong leavings 0 table, length table, how_many (λ entry. not (eqb entry nothing)) table, how_many (λ entry. eqb entry nothing) table)

-- ---- what it says

none-wrong : (ways : List Leaving) (difference : ℕ) (listed : List ℕ) → wrong ways difference listed ≡ []
    → listed ≡ map (entry_in ways) (numbers difference (length listed))
unfolding wrong numbers
none-wrong ways difference [] e = refl
none-wrong ways difference (entry ∷ more) e = pick (none-wrong ways (suc difference) more) (eqb entry (entry_in ways difference)) refl e
  where
    pick : (wrong ways (suc difference) more ≡ [] → more ≡ map (entry_in ways) (numbers (suc difference) (length more)))
        → (right : Bool) → eqb entry (entry_in ways difference) ≡ right
        → cond right (wrong ways (suc difference) more) (difference ∷ wrong ways (suc difference) more) ≡ []
        → entry ∷ more ≡ entry_in ways difference ∷ map (entry_in ways) (numbers (suc difference) (length more))
    pick others true here rest = ap₂ (λ (x : ℕ) (l : List ℕ). x ∷ l) (eqb-true entry (entry_in ways difference) here) (others rest)
    pick others false here rest = absurd (cons≢nil rest)

pub has-rule : (table : List ℕ) → tested table ≡ ([], 1024, 497, 527) → HasRule table
unfolding tested entries entries_in
has-rule table t =
    record {
      each =
          none-wrong leavings 0 table (ap (λ (r : List ℕ × ℕ × ℕ × ℕ). r.0) t)
          ∙ ap (λ (n : ℕ). map (entry_in leavings) (numbers 0 n)) (ap (λ (r : List ℕ × ℕ × ℕ × ℕ). r.1) t);
      naming-bits = ap (λ (r : List ℕ × ℕ × ℕ × ℕ). r.2) t;
      naming-none = ap (λ (r : List ℕ × ℕ × ℕ × ℕ). r.3) t;
    }
