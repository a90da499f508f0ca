-- `judge_report::line` meets its contract.
-- Assumes nothing.
use native.Mathlib.Omega.{arith}
use mathlib.Core.Path.{sym, ap, ◌∙◌}
use Rattle.lines.specs.Line.{refused}
use Rattle.lines.proofs.Told.{front_same, refused-is}
use Rattle.judge_report.specs.Line.{line_of}
use Rattle.judge_report.proofs.Told.{told, one_number}
use Rattle.judge_report.proofs.line.Goals as goal

pub returns-in-Err : goal.returns-in-Err
returns-in-Err c =
    front_same c.put_refused.ensures
    (sym (refused-is _) ∙ told refused (one_number (omega (arith, c.number.ensures))) ∙ sym (ap line_of c.in-Err.is))
