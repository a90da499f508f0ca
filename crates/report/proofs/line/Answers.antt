-- `report::line` meets its contract.
-- Assumes nothing.
use mathlib.Core.Path.{sym, ap, ◌∙◌}
use native.Mathlib.Omega.{arith}
use Rattle.report.specs.Line.{line_of}
use Rattle.lines.proofs.Told.{front_same}
use Rattle.report.proofs.Told.{told-refused}
use Rattle.report.proofs.line.Goals as goal

pub returns-in-Ok : goal.returns-in-Ok
returns-in-Ok c = front_same c.put_reading.ensures (sym (ap line_of c.in-Ok.is))

pub returns-in-Err : goal.returns-in-Err
returns-in-Err c =
    front_same c.put_refused.ensures
    (told-refused c.in-Err.refusal _ (omega (arith, c.number.ensures)) ∙ sym (ap line_of c.in-Err.is))
