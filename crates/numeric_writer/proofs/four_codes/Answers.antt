-- `numeric_writer::four_codes` meets its contract. Assumes nothing.
use Prim.Native.Nat.{◌+◌}
use native.Mathlib.Omega.{arith}
use Rattle.codes.proofs.FirstOfText.{four-own}
use Rattle.numeric.specs.Steps.InFour.{bits_for, bits_from}
use Rattle.numeric.proofs.InFour.{bits-next}
use Rattle.numeric_writer.specs.Steps.Writing.{all-stand}
use Rattle.numeric_writer.proofs.four_codes.Goals as goal

pub own_codes-first-requires : goal.own_codes-first-requires
own_codes-first-requires c =
    all-stand c.args.text.now c.requires.0 c.args.i (omega arith)

pub own_codes-second-requires : goal.own_codes-second-requires
own_codes-second-requires c =
    all-stand c.args.text.now c.requires.0 (c.args.i + 1) (omega arith)

pub own_codes-third-requires : goal.own_codes-third-requires
own_codes-third-requires c =
    all-stand c.args.text.now c.requires.0 (c.args.i + 2) (omega arith)

pub own_codes-fourth-requires : goal.own_codes-fourth-requires
own_codes-fourth-requires c =
    all-stand c.args.text.now c.requires.0 (c.args.i + 3) (omega arith)

pub returns : goal.returns
returns c =
    let t = c.args.text.now in
    four-own t bits_for (bits_from t) (bits-next t) 8 c.args.i c.args.before c.own_codes-first.result c.own_codes-second.result
    c.own_codes-third.result c.own_codes-fourth.result c.four_joined.result c.requires.1 c.requires.2 c.own_codes-first.ensures
    c.own_codes-second.ensures c.own_codes-third.ensures c.own_codes-fourth.ensures c.four_joined.ensures
