-- The first bits of a text from a place on, where those of each character are told by the one before it and by itself: of one character, and of four.
-- Assumes nothing.
use mathlib.Core.Path.{◌≡◌, refl, sym, ap, ap₂, ◌∙◌}
use mathlib.Core.List.{List, ◌++◌}
use Prim.Native.Nat.{ℕ, ◌+◌, ◌-◌, ◌*◌, ◌≤◌, ◌<◌}
use native.Mathlib.Omega.{arith}
use lib.ListN.{length, take, get_or}
use Rattle.codes.specs.Coded.{last_of}
use Rattle.codes.specs.Steps.Sending.{OneOf, FirstOf, FourJoined}
use Rattle.codes.specs.declared.Sent.{Sent}
use Rattle.codes.proofs.EachAfter.{last_taken}
use Rattle.codes.proofs.JoinedCodes.{first-four}

pub one-wider : {row : List ℕ} {most more : ℕ} {r : Sent} → most ≤ more → OneOf row most r → OneOf row more r
one-wider h o = record { same = o.same; fits = o.fits; long = omega (arith, o.long); count = o.count }

-- the character before a place
last-at : (t : List ℕ) (j k : ℕ) → j < length t → k ≡ j + 1 → get_or t j 0 ≡ last_of (take k t)
last-at t j k h e = ap (λ (n : ℕ). get_or t n 0) (let x : j ≡ k - 1 = omega arith in x) ∙ sym (last_taken t k (omega arith) (omega arith))

module _ (t : List ℕ) (bits : ℕ → ℕ → List ℕ) (rest : ℕ → List ℕ)
    (next : (i : ℕ) → i < length t → rest i ≡ bits (last_of (take i t)) (get_or t i 0) ++ rest (i + 1)) (most : ℕ) where
  pub first-own : (i before : ℕ) (r : Sent) → i < length t → before ≡ last_of (take i t) → OneOf (bits before (get_or t i 0)) most r
      → FirstOf rest (length t) i most r
  first-own i before r h b o = record {
    same = next i h
        ∙ ap (λ (x : ℕ). bits x (get_or t i 0) ++ rest (i + 1)) (sym b)
        ∙ ap₂ (λ (l : List ℕ) (k : ℕ). l ++ rest (i + k)) o.same (sym o.count);
    fits = o.fits;
    long = o.long;
    some = omega (arith, o.count);
    within = omega (arith, o.count);
  }

  pub four-own : (i before : ℕ) (a b c d r : Sent) → i + 4 ≤ length t → before ≡ last_of (take i t) → OneOf (bits before (get_or t i 0)) most a
      → OneOf (bits (get_or t i 0) (get_or t (i + 1) 0)) most b → OneOf (bits (get_or t (i + 1) 0) (get_or t (i + 2) 0)) most c
      → OneOf (bits (get_or t (i + 2) 0) (get_or t (i + 3) 0)) most d → FourJoined a b c d r → FirstOf rest (length t) i (4 * most) r
  four-own i before a b c d r h l o p q s =
      first-four rest (length t) i (i + 1) (i + 2) (i + 3) most a b c d r (first-own i before a (omega arith) l o)
      (first-own (i + 1) (get_or t i 0) b (omega arith) (last-at t i (i + 1) (omega arith) refl) p)
      (first-own (i + 2) (get_or t (i + 1) 0) c (omega arith) (last-at t (i + 1) (i + 2) (omega arith) (omega arith)) q)
      (first-own (i + 3) (get_or t (i + 2) 0) d (omega arith) (last-at t (i + 2) (i + 3) (omega arith) (omega arith)) s)
      (omega (arith, o.count)) (omega (arith, p.count)) (omega (arith, q.count))
