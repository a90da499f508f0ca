-- `pseudo_binary_reader::nine_at` meets its contract. Assumes nothing.
use Rattle.pseudo_binary_reader.proofs.Starts.{nine-part}
use native.Mathlib.Omega.{arith}
use Rattle.pseudo_binary_reader.proofs.nine_at.Goals as goal

pub returns : goal.returns
returns c =
    nine-part c.args.s.now c.pair.result c.args.at _ c.requires c.pair.ensures.0 (omega arith)
