-- Two rows held against each other: as ours or apart, and that there is one answer.
-- Assumes nothing.
use mathlib.Core.List.{List, ◌++◌}
use mathlib.Core.Logic.{◌⊎◌, inl, inr}
use mathlib.Core.Path.{◌≡◌, refl, sym, ap, ◌∙◌}
use Prim.Native.Nat.{ℕ, ◌≤◌}
use native.Mathlib.Omega.{arith}
use lib.ListN.{length, take, drop, length-append, take-append-drop}
use lib.Seq.{take_all}
use Rattle.bits.specs.Row.{bits}
use Rattle.apart.specs.Comparison.{Compares, Against}
use Rattle.apart.specs.Steps.Parting.{PartsAt, Comparable}
use Rattle.std.specs.Prelude.{Option, Some, None}
use Rattle.apart.specs.declared.Judgement.{Judgement}
use Rattle.apart.proofs.Once.{one_apart, apart-differ}

-- rows that part nowhere are the same
pub nowhere-apart : {theirs ours : List ℕ} → Comparable theirs ours → (take (length theirs) ours ≡ theirs) ⊎ (take (length ours) theirs ≡ ours) → theirs ≡ ours
nowhere-apart {theirs} {ours} c (inl front) = sym front ∙ take_all (length theirs) ours c.no-shorter
nowhere-apart {theirs} {ours} c (inr front) =
    let rest = drop (length ours) theirs in
    let whole : theirs ≡ ours ++ rest = sym (take-append-drop (length ours) theirs) ∙ ap (λ (l : List ℕ). l ++ rest) front in
    let long : length theirs ≤ length ours = omega (arith, c.no_front rest whole, ap length whole, length-append ours rest) in
    sym (take_all (length ours) theirs long) ∙ front

-- so where rows part, or that they do not, is how the one compares with the other
pub parting-compares : {theirs ours : List ℕ} → Comparable theirs ours → (parting : Option ℕ) → PartsAt theirs ours parting → Compares theirs ours parting
parting-compares c None front = nowhere-apart c front
parting-compares c (Some bit) parts = parts

-- ---- two rows are held against each other in one way

pub one-comparison : (theirs ours : List ℕ) (a b : Option ℕ) → Compares theirs ours a → Compares theirs ours b → a ≡ b
one-comparison theirs ours None None p q = refl
one-comparison theirs ours None (Some j) p q = absurd (apart-differ q (ap bits p))
one-comparison theirs ours (Some i) None p q = absurd (apart-differ p (ap bits q))
one-comparison theirs ours (Some i) (Some j) p q = ap {B = Option ℕ} Some (one_apart p q)

pub one-judgement : (theirs ours : List ℕ) (a b : Judgement) → Against theirs ours a → Against theirs ours b → a ≡ b
one-judgement theirs ours a b p q =
    let same : a.more ≡ b.more = omega (arith, p.longer, q.longer) in
    λ i. record {
      departs_at = one-comparison theirs ours a.departs_at b.departs_at p.compares q.compares i;
      more = same i;
    }
