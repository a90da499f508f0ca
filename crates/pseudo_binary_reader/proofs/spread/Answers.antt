-- `pseudo_binary_reader::spread` meets its contract. Assumes nothing.
use native.Mathlib.Omega.{arith}
use Rattle.pseudo_binary_reader.proofs.Parting.{halves, quarters, eighths, eighths-spread}
use Rattle.pseudo_binary_reader.proofs.spread.Goals as goal

pub returns : goal.returns
unfolding halves quarters eighths
returns c = eighths-spread c.args.values c.requires (omega arith)
