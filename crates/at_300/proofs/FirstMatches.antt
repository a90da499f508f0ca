-- Two ways to state the conditions of refusals have the same first match where they agree on each refusal that no condition of an earlier turn comes before.
-- Assumes nothing.
use mathlib.Core.Logic.{◌↔◌}
use Prim.Native.Nat.{ℕ, zero, suc, ◌<◌}
use native.Mathlib.Omega.{arith}
use Rattle.refusals.specs.Match.{FirstMatch}
use Rattle.refusals.specs.Refusals.{Told, number_in}

module _ (Refusal : Type 0) (told : Refusal → Told) (turn : ℕ → ℕ) where
  abbrev pub turn_of : Refusal → ℕ
  turn_of refusal = turn (number_in (told refusal))

  -- no condition of a turn below this one holds
  abbrev pub NoneBelow : (Refusal → Type 0) → ℕ → Type 0
  NoneBelow Fault n = (other : Refusal) → turn_of other < n → Fault other → ⊥

  module _ (Now Before : Refusal → Type 0) (agree : (r : Refusal) → NoneBelow Now (turn_of r) → Now r ↔ Before r) where
    none-now : (n : ℕ) → NoneBelow Before n → NoneBelow Now n
    none-now zero none other lt f = omega arith
    none-now (suc n) none other lt f =
        none other lt
        ((agree other (λ o less. none-now n (λ p below. none p (omega arith)) o (omega arith))).0 f)

    pub first_matches : (r : Refusal) → FirstMatch Refusal told Now turn r ↔ FirstMatch Refusal told Before turn r
    first_matches r = (
      λ p.
          record {
            fault = (agree r p.first).0 p.fault;
            first = λ other lt f. p.first other lt ((agree other (λ o less. p.first o (omega arith))).1 f);
          },
      λ p.
          let none = none-now (turn_of r) p.first in
          record { fault = (agree r none).1 p.fault; first = none },
    )
