-- `sections::put_sum` meets its contract.
-- Assumes nothing.
use mathlib.Core.List.{List, [], ◌∷◌, ◌++◌, append_assoc}
use mathlib.Core.Path.{◌≡◌, ap, ap₂, ◌∙◌}
use Prim.Native.Nat.{ℕ, ◌+◌, ◌-◌, ◌/◌, ◌%◌, ◌≤◌}
use native.Mathlib.Numerals.{add-one}
use native.Mathlib.Omega.{arith}
use lib.ListN.{length, set, take, drop}
use lib.Seq.{sets-eq}
use Rattle.checksum.specs.Checksum.{checksum_bytes, checksum_of}
use Rattle.sections.proofs.put_sum.Goals as goal

two : (s : List ℕ) (end low high : ℕ) → end + 2 ≤ length s
    → set (set s end low) (end + 1) high ≡ take end s ++ ((low ∷ high ∷ []) ++ drop (end + 2) s)
two s end low high h = ap (λ (n : ℕ). set (set s end low) n high) (add-one end) ∙ sets-eq (low ∷ high ∷ []) s end h
    ∙ append_assoc (take end s) (low ∷ high ∷ []) (drop (end + 2) s)

pub returns : goal.returns
unfolding checksum_bytes
returns c =
    let a = c.args in
    let s = a.body.now in
    let sum : c.checksum-sum.result ≡ checksum_of (take (a.end - a.start) (drop a.start s)) = c.checksum-sum.ensures in
    two s a.end c.low_byte.result c.high_byte.result (omega arith)
    ∙ ap₂ (λ (low high : ℕ). take a.end s ++ (low ∷ high ∷ drop (a.end + 2) s))
    (c.low_byte.ensures ∙ ap (λ (n : ℕ). n % 256) sum)
    (c.high_byte.ensures ∙ ap (λ (n : ℕ). n / 256) sum)
