-- `full_ascii_writer::FullAsciiWrites::units_for` meets its contract. Assumes nothing.
use mathlib.Core.Path.{ap, ◌∙◌}
use native.Mathlib.Omega.{arith}
use lib.ListN.{length}
use Rattle.codes.proofs.LowBits.{length-low}
use Rattle.full_ascii_writer.proofs.Counting.{bits_none, bits-some}
use Rattle.full_ascii_writer.proofs.FullAsciiWrites.units_for.Goals as goal

pub returns-then-before-c : goal.returns-then-before-c
returns-then-before-c c = (omega (arith, bits_none c.args.before c.args.c c.if-before-c.true), omega arith)

pub returns : goal.returns
returns c =
    let o = c.own_code in
    let wide = ap length o.ensures.same ∙ length-low o.result.width o.result.bits in
    (omega (arith, bits-some c.args.before c.args.c c.if-before-c.false, wide), omega (arith, o.ensures.long))
