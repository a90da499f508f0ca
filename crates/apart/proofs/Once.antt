-- There is one first bit at which two rows differ, and none where one is the front of the other: so the promise leaves one answer.
-- Assumes nothing.
use mathlib.Core.List.{List, ◌++◌}
use mathlib.Core.Logic.{◌⊎◌, inl, inr}
use mathlib.Core.Path.{◌≡◌, refl, sym, ap, ◌∙◌}
use Prim.Native.Nat.{ℕ, ◌+◌, ◌≤◌, ◌<◌}
use native.Mathlib.Decide.{dec_le}
use native.Mathlib.Omega.{arith}
use lib.ListN.{length, take, drop, get_or, take-append-drop, get_or-append}
use lib.Seq.{get_or-take}
use Rattle.bits.specs.Row.{bits}
use Rattle.apart.specs.Apart.{FirstApart}
use Rattle.apart.specs.Steps.Parting.{PartsAt}
use Rattle.std.specs.Prelude.{Option, Some, None}
use Rattle.apart.proofs.Parted.{bits-append}

-- a bit before one at which they part is the same in both
before-apart : {a b : List ℕ} {i j : ℕ} → FirstApart a b i → FirstApart a b j → i < j → ⊥
before-apart {a} {b} {i} {j} p q lt =
    p.here (sym (get_or-take j a i 0 lt) ∙ ap (λ (l : List ℕ). get_or l i 0) q.before ∙ get_or-take j b i 0 lt)

pub one_apart : {a b : List ℕ} {i j : ℕ} → FirstApart a b i → FirstApart a b j → i ≡ j
one_apart {i = i} {j = j} p q = pick (dec_le (i + 1) j) (dec_le (j + 1) i)
  where
    pick : Dec (i + 1 ≤ j) → Dec (j + 1 ≤ i) → i ≡ j
    pick (yes lt) d = absurd (before-apart p q (omega arith))
    pick (no ge) (yes gt) = absurd (before-apart q p (omega arith))
    pick (no ge) (no le) = omega arith

-- rows that part are not the same
pub apart-differ : {a b : List ℕ} {i : ℕ} → FirstApart a b i → a ≡ b → ⊥
apart-differ {i = i} p same = p.here (ap (λ (l : List ℕ). get_or l i 0) same)

-- bits of a row whose front another is
front-bit : (a b : List ℕ) (i : ℕ) → take (length a) b ≡ a → i < length (bits a) → get_or (bits b) i 0 ≡ get_or (bits a) i 0
front-bit a b i front lt =
    let whole : b ≡ a ++ drop (length a) b = sym (take-append-drop (length a) b) ∙ ap (λ (l : List ℕ). l ++ drop (length a) b) front in
    ap (λ (l : List ℕ). get_or l i 0) (ap bits whole ∙ bits-append a (drop (length a) b)) ∙ get_or-append (bits a) (bits (drop (length a) b)) 0 i lt

apart-front : {a b : List ℕ} {i : ℕ} → FirstApart (bits a) (bits b) i → (take (length a) b ≡ a) ⊎ (take (length b) a ≡ b) → ⊥
apart-front {a} {b} {i} p (inl front) = p.here (sym (front-bit a b i front p.in_one))
apart-front {a} {b} {i} p (inr front) = p.here (front-bit b a i front p.in-other)

pub first-apart-once : (a b : List ℕ) (r s : Option ℕ) → PartsAt a b r → PartsAt a b s → r ≡ s
first-apart-once a b (Some i) (Some j) p q = ap Some (one_apart p q)
first-apart-once a b (Some i) None p q = absurd (apart-front p q)
first-apart-once a b None (Some j) p q = absurd (apart-front q p)
first-apart-once a b None None p q = refl
