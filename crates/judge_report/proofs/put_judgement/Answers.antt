-- `judge_report::put_judgement` meets its contract.
-- Assumes nothing.
use Prim.Native.Nat.{ℕ}
use native.Mathlib.Omega.{arith}
use mathlib.Core.List.{[], ◌∷◌}
use mathlib.Core.Path.{sym, ap, ◌∙◌}
use Rattle.std.specs.Prelude.{Option, ℕ}
use Rattle.lines.proofs.Told.{front_same, line-within}
use Rattle.judge_report.specs.Line.{ours, departs, line_for}
use Rattle.judge_report.proofs.Told.{told, one_number, two-numbers}
use Rattle.judge_report.proofs.put_judgement.Goals as goal

pub put_line-requires : goal.put_line-requires
put_line-requires c = omega (arith, c.requires, line-within ours (c.args.judgement.more ∷ []))

pub put_line-requires-in-Some : goal.put_line-requires-in-Some
put_line-requires-in-Some c = omega (arith, c.requires, line-within departs (c.in-Some.bit ∷ c.args.judgement.more ∷ []))
