-- `register::each_step` meets its contract.
-- Assumes nothing.
use mathlib.Core.Path.{sym, ap, ◌∙◌}
use Prim.Native.Nat.{ℕ, ◌+◌}
use native.Mathlib.Omega.{arith}
use lib.ListN.{drop, drop_of_length-le}
use Rattle.register.specs.Register.{checksum_from}
use Rattle.register.proofs.Row.{checksum-next}
use Rattle.register.proofs.each_step.Goals as goal

pub loop-byte-preserved : goal.loop-byte-preserved
loop-byte-preserved c =
    let bytes = c.args.«data».now in
    let i = c.loop-byte.byte-index in
    ap (λ (r : ℕ). checksum_from r (drop (i + 1) bytes)) c.byte_step-moved.ensures ∙ checksum-next c.loop-byte.moved bytes i (omega arith) ∙ c.loop-byte.invariant

pub returns : goal.returns
unfolding checksum_from
returns c =
    sym (ap (checksum_from c.loop-byte.moved) (drop_of_length-le c.args.«data».now {i = c.loop-byte.byte-index} (omega arith))) ∙ c.loop-byte.invariant
