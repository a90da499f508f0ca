-- The promise of mending leaves one answer.
-- Assumes nothing.
use mathlib.Core.Path.{◌≡◌, refl, sym, ap, ap₂, ◌∙◌}
use Prim.Native.Nat.{ℕ, ◌≤◌}
use Rattle.distance.specs.Distance.{distance}
use Rattle.distance.proofs.Unique.{one-near}
use Rattle.mending.specs.declared.Mending.{Mending}
use Rattle.mending.specs.declared.Mending.TheVariants.{Mended, Hopeless}
use Rattle.mending.specs.Mends.{MendsWithin}

pub one_answer : (limit received : ℕ) → limit ≤ 2 → (a b : Mending) → MendsWithin limit received a → MendsWithin limit received b → a ≡ b
one_answer limit received le (Mended v n) (Mended w m) p q =
    let same : v ≡ w = one-near limit received v w le p.0 q.0 in
    ap₂ Mended same (p.1 ∙ ap (distance received) same ∙ sym q.1)
one_answer limit received le (Mended v n) Hopeless p q = absurd (q v p.0)
one_answer limit received le Hopeless (Mended w m) p q = absurd (p w q.0)
one_answer limit received le Hopeless Hopeless p q = refl
