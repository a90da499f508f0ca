-- `register::after` meets its contract.
-- Assumes nothing.
use mathlib.Core.Path.{refl, ap, ap₂, ◌∙◌}
use Rattle.register.specs.Register.{start, checksum_from}
use Rattle.register.proofs.Row.{checksum-rest}
use Rattle.register.proofs.after.Goals as goal

pub loop-parts-init : goal.loop-parts-init
unfolding start
loop-parts-init c = refl

pub loop-parts-preserved : goal.loop-parts-preserved
loop-parts-preserved c =
    let moved = c.loop-parts.moved in
    let parted = c.in-Some.ensures.cases in
    ap₂ checksum_from (c.four_parts-moved.ensures ∙ ap (checksum_from moved) parted.0) parted.1
    ∙ checksum-rest 96 moved c.loop-parts.rest.now
    ∙ c.loop-parts.invariant
