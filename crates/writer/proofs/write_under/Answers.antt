-- `writer::write_under` meets its contract: at each return the conditions of the tests passed do not hold, and the next one's does.
-- Assumes nothing.
use mathlib.Core.List.{List, [], ◌∷◌}
use mathlib.Core.Path.{◌≡◌, refl}
use Prim.Native.Nat.{ℕ}
use native.Mathlib.Omega.{arith}
use lib.ListN.{length}
use Rattle.writer.proofs.WriteAnswers.{refused-data}
use Rattle.writer.proofs.WriteStages.{clear-twelve, clear-ten}
use Rattle.writer.proofs.write_under.Goals as goal

no_text : (text : List ℕ) → length text ≡ 0 → text ≡ []
no_text [] e = refl
no_text (c ∷ text) e = absurd (let no' : ⊥ = omega arith in no')

pub returns-in_default : goal.returns-in_default
returns-in_default c = (record { fault = c.in_default.ensures; first = clear-twelve c.args.terms c.args.format c.args.text.now _ }, refl)

pub returns-then-text-eq0 : goal.returns-then-text-eq0
returns-then-text-eq0 c =
    (record { fault = no_text _ c.if-text-eq0.true; first = clear-ten c.args.terms _ _ _ c.in-Some.named c.in-Some.ensures }, refl)

pub returns-in_err-n : goal.returns-in_err-n
returns-in_err-n c =
    let a = c.args in
    let unfit = c.in_err-n in
    refused-data a.terms a.format a.sync a.text.now a.packet.now c.in-Some.named c.in-Some.ensures (omega (arith, c.if-text-eq0.false))
    unfit.field-0.0 unfit.ensures _ c.from_residual.ensures.1
