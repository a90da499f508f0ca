-- `register::byte_step` meets its contract.
-- Assumes nothing.
use mathlib.Core.Path.{ap, ◌∙◌}
use Prim.Native.Nat.{ℕ, ◌%◌}
use Rattle.register.specs.Steps.Halves.{half_step}
use Rattle.register.proofs.Halves.{byte-by-halves}
use Rattle.register.proofs.byte_step.Goals as goal

pub returns : goal.returns
returns c =
    let a = c.args in
    c.half_step.ensures ∙ ap (λ (r : ℕ). half_step r (a.byte % 16)) c.half_step-moved.ensures ∙ byte-by-halves a.register a.byte
