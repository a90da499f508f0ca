-- A list that is to have a rule, as a table's entries are: the test of all of them, and what it says.
-- Assumes nothing.
use mathlib.Core.Bool.{Bool, true, false, cond}
use mathlib.Core.List.{List, [], ◌∷◌, map, cons≢nil}
use mathlib.Core.Path.{◌≡◌, refl, ap₂}
use Prim.Native.Nat.{ℕ, suc}
use lib.Dec.{eqb}
use lib.ListN.{length}
use borrow.Author.Tests.{eqb-true}
use Rattle.bits.specs.Numbers.{numbers}

-- the places, from this one on, whose entries are not those of the rule
unfoldable pub wrong : (ℕ → ℕ) → ℕ → List ℕ → List ℕ
wrong rule place [] = []
wrong rule place (entry ∷ more) =
    let further = wrong rule (suc place) more in
    cond (eqb entry (rule place)) further (place ∷ further)

pub none-wrong : (rule : ℕ → ℕ) (place : ℕ) (listed : List ℕ) → wrong rule place listed ≡ [] → listed ≡ map rule (numbers place (length listed))
unfolding wrong numbers
none-wrong rule place [] e = refl
none-wrong rule place (entry ∷ more) e = pick (none-wrong rule (suc place) more) (eqb entry (rule place)) refl e
  where
    pick : (wrong rule (suc place) more ≡ [] → more ≡ map rule (numbers (suc place) (length more))) → (right : Bool) → eqb entry (rule place) ≡ right
        → cond right (wrong rule (suc place) more) (place ∷ wrong rule (suc place) more) ≡ []
        → entry ∷ more ≡ rule place ∷ map rule (numbers (suc place) (length more))
    pick others true here rest = ap₂ (λ (x : ℕ) (l : List ℕ). x ∷ l) (eqb-true entry (rule place) here) (others rest)
    pick others false here rest = absurd (cons≢nil rest)
