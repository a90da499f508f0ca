-- For the four bytes of P6 the line is exactly `refused 2` and a newline.
-- Assumes nothing.
use mathlib.Core.List.{List, [], ◌∷◌}
use mathlib.Core.Path.{◌≡◌, ◌∙◌}
use Prim.Native.Nat.{ℕ}
use Rattle.demands.proofs.Edges.{edges-hold}
use Rattle.refusals.specs.declared.ReadRefusal.TheVariants.{Packet}
use Rattle.refusals.specs.declared.ExamineRefusal.TheVariants.{NoHeader}
use Rattle.report.specs.Report.{Prints}
use Rattle.report.proofs.Once.{prints-refused, refused-two}

pub six : {line : List ℕ} → Prints (0x40 ∷ 0x00 ∷ 0x04 ∷ 0xDA ∷ []) line
    → line ≡ 114 ∷ 101 ∷ 102 ∷ 117 ∷ 115 ∷ 101 ∷ 100 ∷ 32 ∷ 50 ∷ 10 ∷ []
six p = prints-refused (Packet NoHeader) (edges-hold.1.1.1.1.1.1.0.1.1.0.0 []) p ∙ refused-two
