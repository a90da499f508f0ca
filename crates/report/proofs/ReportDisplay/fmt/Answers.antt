-- `{}` of a report writes its line.
-- Assumes nothing.
use mathlib.Core.List.{List}
use mathlib.Core.Path.{refl, sym, ap, subst, ◌∙◌}
use Prim.Native.Nat.{ℕ}
use native.Mathlib.Omega.{arith}
use Rattle.std.proofs.Common.{rules}
use Rattle.std.specs.Fmt.{HasWritten}
use Rattle.report.specs.Line.{line_of}
use Rattle.lines.specs.Line.{refused}
use Rattle.lines.proofs.Shown.{one_printed}
use Rattle.report.proofs.Shown.{accepted_printed, accepted-shown, refused-shown}
use Rattle.report.proofs.ReportDisplay.fmt.Goals as goal

pub returns-in-Ok-clause-writes : goal.returns-in-Ok-clause-writes
returns-in-Ok-clause-writes g c plain ok =
    let r = c.in-Ok.reading in
    let written : HasWritten g.W.Write.write_str_gives c.args.f.now
    (accepted_printed c.number-format.result c.from-sync.result r.mended r.mask r.data_length r.text_length) c.writeln.new.self =
    search rules in
    subst (λ (l : List ℕ). HasWritten g.W.Write.write_str_gives c.args.f.now l c.writeln.new.self)
    (accepted-shown r (omega arith) (omega arith) (search rules) (search rules) (search rules) (search rules)
    (omega (arith, c.number-format.ensures)) (omega (arith, c.from-sync.ensures)) refl refl refl refl
    ∙ sym (ap line_of c.in-Ok.is))
    written

pub returns-in-Err-clause-writes : goal.returns-in-Err-clause-writes
returns-in-Err-clause-writes g c plain ok =
    subst (λ (l : List ℕ). HasWritten g.W.Write.write_str_gives c.args.f.now l c.writeln-in-Err.new.self)
    (refused-shown c.in-Err.refusal (omega arith) (omega (arith, c.number-number.ensures)) ∙ sym (ap line_of c.in-Err.is))
    (c.writeln-in-Err.ensures.writes plain ok)
