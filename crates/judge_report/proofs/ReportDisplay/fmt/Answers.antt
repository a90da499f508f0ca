-- `{}` of a report writes its line.
-- Assumes nothing.
use mathlib.Core.List.{List}
use mathlib.Core.Path.{sym, ap, subst, ◌∙◌}
use Prim.Native.Nat.{ℕ}
use native.Mathlib.Omega.{arith}
use Rattle.std.proofs.Common.{rules}
use Rattle.std.specs.Fmt.{HasWritten}
use Rattle.std.specs.declared.option.Option.{Option}
use Rattle.lines.specs.Line.{refused}
use Rattle.lines.proofs.Shown.{one-shown, two-shown}
use Rattle.judge_report.specs.Line.{ours, departs, line_for, line_of}
use Rattle.judge_report.proofs.Told.{told, one_number}
use Rattle.judge_report.proofs.ReportDisplay.fmt.Goals as goal

pub returns-in-None-clause-writes : goal.returns-in-None-clause-writes
returns-in-None-clause-writes g c plain ok =
    let judgement = c.in-Ok.judgement in
    subst (λ (l : List ℕ). HasWritten g.W.Write.write_str_gives c.args.f.now l c.writeln.new.self)
    (one-shown ours judgement.more (search rules)
    ∙ ap (λ (k : Option ℕ). line_for k judgement.more) (sym c.in-None.is)
    ∙ sym (ap line_of c.in-Ok.is))
    (c.writeln.ensures.writes plain ok)

pub returns-in-Some-clause-writes : goal.returns-in-Some-clause-writes
returns-in-Some-clause-writes g c plain ok =
    let judgement = c.in-Ok.judgement in
    subst (λ (l : List ℕ). HasWritten g.W.Write.write_str_gives c.args.f.now l c.writeln-in-Some.new.self)
    (two-shown departs c.in-Some.bit judgement.more (search rules) (search rules)
    ∙ ap (λ (k : Option ℕ). line_for k judgement.more) (sym c.in-Some.is)
    ∙ sym (ap line_of c.in-Ok.is))
    (c.writeln-in-Some.ensures.writes plain ok)

pub returns-in-Err-clause-writes : goal.returns-in-Err-clause-writes
returns-in-Err-clause-writes g c plain ok =
    let number = c.number-number.result in
    subst (λ (l : List ℕ). HasWritten g.W.Write.write_str_gives c.args.f.now l c.writeln-in-Err.new.self)
    (one-shown refused number (omega arith)
    ∙ told refused (one_number (omega (arith, c.number-number.ensures)))
    ∙ sym (ap line_of c.in-Err.is))
    (c.writeln-in-Err.ensures.writes plain ok)
