-- For every packet one line; so the promise of `packet_line` leaves one answer and one content of the buffer (that of `line` by `one-front` of `codes`).
-- Assumes nothing.
use mathlib.Core.Bool.{false}
use mathlib.Core.List.{List}
use mathlib.Core.Path.{◌≡◌, sym, ap, subst, ◌∙◌}
use Prim.Native.Nat.{ℕ}
use native.Mathlib.Omega.{arith}
use Rattle.codes.specs.Steps.Laid.{Fronted}
use Rattle.codes.proofs.OneAnswer.{one-front}
use Rattle.terms.specs.Terms.{naming}
use Rattle.judge.proofs.JudgeOnce.{judges-one}
use Rattle.judge_report.specs.Line.{line_of}
use Rattle.judge_report.specs.Report.{Prints}
use Rattle.judge_report.specs.Steps.Put.{PutsLine}

pub one_line : {packet a b : List ℕ} → Prints packet a → Prints packet b → a ≡ b
one_line {packet} p q =
    p.is ∙ ap line_of (judges-one (naming 1 false) packet (omega arith) p.answer q.answer p.judges q.judges) ∙ sym q.is

pub puts_one : {packet out out' out'' : List ℕ} {r s : ℕ} → PutsLine packet out out' r → PutsLine packet out out'' s → (out' ≡ out'') × (r ≡ s)
puts_one {packet} {out} {out'} {out''} {r} {s} p q =
    one-front p.front (subst (λ (l : List ℕ). Fronted l out out'' s) (sym (one_line p.prints q.prints)) q.front)
