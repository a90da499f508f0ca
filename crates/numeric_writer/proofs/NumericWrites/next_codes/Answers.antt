-- `numeric_writer::NumericWrites::next_codes` meets its contract. Assumes nothing.
use lib.Dec.{lit≤}
use Rattle.codes.proofs.FirstOfText.{one-wider, first-own}
use Rattle.numeric.specs.Steps.InFour.{bits_for, bits_from}
use Rattle.numeric.proofs.InFour.{bits-next}
use Rattle.numeric_writer.specs.Steps.Writing.{all-stand}
use Rattle.numeric_writer.proofs.NumericWrites.next_codes.Goals as goal

pub own_codes-requires : goal.own_codes-requires
own_codes-requires c =
    all-stand c.args.text.now c.requires.0 c.args.i c.requires.1

pub returns : goal.returns
returns c =
    let t = c.args.text.now in
    first-own t bits_for (bits_from t) (bits-next t) 32 c.args.i c.before_at-before.result c.own_codes.result c.requires.1 c.before_at-before.ensures
    (one-wider (lit≤ tt) c.own_codes.ensures)
