-- A character that is laid into a buffer again and again.
-- Assumes nothing.
use mathlib.Core.Path.{◌≡◌, sym, ap, ap₂, ◌∙◌}
use mathlib.Core.List.{List, [], ◌∷◌, ◌++◌}
use Prim.Native.Nat.{ℕ, ◌+◌, ◌-◌, ◌≤◌, ◌<◌}
use native.Mathlib.Omega.{arith}
use lib.ListN.{length, take, drop, replicate, set, length-replicate, replicate-append-replicate}
use borrow.Rule.Slice.PartMut.{put_mid}
use lib.Seq.{drop-drop}
use Rattle.codes.specs.Steps.Laid.{laid}
use Rattle.codes.proofs.LaidRows.{laid-laid, length-laid, set-laid}

-- the character stands in the buffer k times from place n on
module _ (entry out : List ℕ) (n k x : ℕ) (so_far : out ≡ laid entry n (replicate k x)) where
  pub repeated-length : n + k ≤ length entry → length out ≡ length entry
  repeated-length h = ap length so_far ∙ length-laid entry n (replicate k x) (omega (arith, length-replicate k x))

  -- and once more
  pub repeated-more : n + k < length entry → set out (n + k) x ≡ laid entry n (replicate (k + 1) x)
  repeated-more h =
      set-laid out (n + k) x (omega (arith, repeated-length (omega arith)))
      ∙ ap (λ (l : List ℕ). laid l (n + k) (x ∷ [])) so_far
      ∙ laid-laid entry n (n + k) (replicate k x) (x ∷ []) (omega (arith, length-replicate k x)) (ap (λ (j : ℕ). n + j) (sym (length-replicate k x)))
      ∙ ap (laid entry n) (replicate-append-replicate k 1 x)

-- so it is where a part of the buffer is filled with it
pub filled : (d : List ℕ) (n count x : ℕ) (part : List ℕ) → part ≡ replicate count x → put_mid n (n + count - n) d part ≡ laid d n (replicate count x)
unfolding laid
filled d n count x part e =
    let place : n + (n + count - n) ≡ n + length (replicate count x) = omega (arith, length-replicate count x) in
    ap₂ (λ (l m : List ℕ). take n d ++ (l ++ m)) e (drop-drop (n + count - n) n d ∙ ap (λ (k : ℕ). drop k d) place)
