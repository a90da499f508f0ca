-- `full_ascii_writer::four_codes` meets its contract. Assumes nothing.
use Prim.Native.Nat.{◌+◌}
use native.Mathlib.Omega.{arith}
use Rattle.full_ascii_writer.proofs.FourPlain.{four-plain}
use Rattle.full_ascii_writer.proofs.Sending.{plain-joinable}
use Rattle.full_ascii_writer.proofs.four_codes.Goals as goal

pub four_joined-requires : goal.four_joined-requires
four_joined-requires c =
    let t = c.args.text.now in
    let i = c.args.i in
    let plain = c.requires.1 in (
      plain-joinable t i c.own_code-first.result c.requires.0 (omega (arith, plain.there)) plain.first c.own_code-first.ensures,
      plain-joinable t (i + 1) c.own_code-second.result c.requires.0 (omega (arith, plain.there)) plain.second c.own_code-second.ensures,
      plain-joinable t (i + 2) c.own_code-third.result c.requires.0 (omega (arith, plain.there)) plain.third c.own_code-third.ensures,
      plain-joinable t (i + 3) c.own_code-fourth.result c.requires.0 (omega (arith, plain.there)) plain.fourth c.own_code-fourth.ensures,
    )

pub returns : goal.returns
returns c =
    four-plain c.args.text.now c.args.i c.requires.0 c.requires.1 c.own_code-first.result c.own_code-second.result c.own_code-third.result
    c.own_code-fourth.result c.four_joined.result c.own_code-first.ensures c.own_code-second.ensures c.own_code-third.ensures
    c.own_code-fourth.ensures c.four_joined.ensures
