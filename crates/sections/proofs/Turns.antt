-- Rows one after the other: how long they are, and taken apart at one of them.
-- Assumes nothing.
use mathlib.Core.List.{List, [], ◌++◌, append_assoc, append-nil}
use mathlib.Core.Path.{◌≡◌, refl, sym, ap, ap₂, ◌∙◌}
use Prim.Native.Nat.{ℕ, zero, suc, ◌+◌, ◌-◌, ◌*◌, ◌<◌}
use native.Mathlib.Nat.{suc-mul}
use native.Mathlib.Omega.{arith}
use lib.ListN.{length, length-append}
use Rattle.sections.specs.Sections.{in_turn}

pub no-turns : (row : ℕ → List ℕ) (k : ℕ) → k ≡ 0 → in_turn row k ≡ []
unfolding in_turn
no-turns row k none = ap (in_turn row) none

-- of one length each
pub turns-length : (row : ℕ → List ℕ) (w k : ℕ) → ((j : ℕ) → j < k → length (row j) ≡ w) → length (in_turn row k) ≡ k * w
unfolding in_turn
turns-length row w zero each = omega arith
turns-length row w (suc k) each =
    length-append (in_turn row k) (row k)
    ∙ ap₂ ◌+◌ (turns-length row w k (λ j lt. each j (omega arith))) (each k (omega arith))
    ∙ sym (suc-mul k w)

-- rows that are alike
pub turns-alike : (f g : ℕ → List ℕ) (k : ℕ) → ((j : ℕ) → j < k → f j ≡ g j) → in_turn f k ≡ in_turn g k
unfolding in_turn
turns-alike f g zero same = refl
turns-alike f g (suc k) same = ap₂ ◌++◌ (turns-alike f g k (λ j lt. same j (omega arith))) (same k (omega arith))

-- the first k, and then so many more
pub turns-add : (row : ℕ → List ℕ) (k m n : ℕ) → n ≡ k + m → in_turn row n ≡ in_turn row k ++ in_turn (λ j. row (k + j)) m
unfolding in_turn
turns-add row k zero n e =
    ap (in_turn row) (let same : n ≡ k = omega arith in same) ∙ sym (append-nil (in_turn row k))
turns-add row k (suc m) n e =
    ap (in_turn row) (let next : n ≡ suc (k + m) = omega arith in next)
    ∙ ap (λ (l : List ℕ). l ++ row (k + m)) (turns-add row k m (k + m) refl)
    ∙ append_assoc (in_turn row k) (in_turn (λ j. row (k + j)) m) (row (k + m))

-- row k in front of those behind it
pub turns-from : (row : ℕ → List ℕ) (k m n : ℕ) → n ≡ suc m → in_turn (λ j. row (k + j)) n ≡ row k ++ in_turn (λ j. row (suc k + j)) m
unfolding in_turn
turns-from row k m n e =
    turns-add (λ j. row (k + j)) 1 m n (omega arith)
    ∙ ap₂ ◌++◌ (ap row (let same : k + 0 ≡ k = omega arith in same))
    (turns-alike (λ j. row (k + (1 + j))) (λ j. row (suc k + j)) m (λ j lt. ap row (let same : k + (1 + j) ≡ suc k + j = omega arith in same)))

-- taken apart at row k
pub turns_at : (row : ℕ → List ℕ) (k n : ℕ) → k < n → (after : List ℕ)
    → in_turn row n ++ after ≡ in_turn row k ++ (row k ++ (in_turn (λ j. row (suc k + j)) (n - suc k) ++ after))
turns_at row k n lt after =
    let behind = in_turn (λ j. row (suc k + j)) (n - suc k) in
    ap (λ (l : List ℕ). l ++ after)
    (turns-add row k (n - k) n (omega arith) ∙ ap (λ (l : List ℕ). in_turn row k ++ l) (turns-from row k (n - suc k) (n - k) (omega arith)))
    ∙ append_assoc (in_turn row k) (row k ++ behind) after
    ∙ ap (λ (l : List ℕ). in_turn row k ++ l) (append_assoc (row k) behind after)
