-- `register::four_parts` meets its contract: part after part is put to those before.
-- Assumes nothing.
use mathlib.Core.Path.{◌≡◌, ap, ◌∙◌}
use native.Mathlib.Omega.{arith}
use lib.Bits.{bit_xor}
use lib.Seq.{take_all}
use Rattle.register.specs.Register.{checksum_from}
use Rattle.register.specs.Steps.Parts.{part}
use Rattle.register.proofs.Together.{part-joins}
use Rattle.register.proofs.four_parts.Goals as goal

pub returns : goal.returns
unfolding part
returns c =
    let r = c.args.register in
    let bytes = c.args.«data».now in
    let parts = c.side_by_side-parts.ensures in
    let after-two : bit_xor c.past_part.result c.side_by_side-parts.result.second ≡ part 48 r bytes 0 =
    part-joins 24 r bytes 0 (omega arith) parts.first c.past_part.ensures parts.second in
    let after-three : bit_xor c.past_part-2.result c.side_by_side-parts.result.third ≡ part 72 r bytes 0 =
    part-joins 48 r bytes 0 (omega arith) after-two c.past_part-2.ensures parts.third in
    part-joins 72 r bytes 0 (omega arith) after-three c.past_part-3.ensures parts.fourth ∙ ap (checksum_from r) (take_all 96 bytes (omega arith))
