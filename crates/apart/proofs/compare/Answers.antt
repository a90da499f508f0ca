-- `apart::compare` meets its contract.
-- Assumes nothing.
use native.Mathlib.Omega.{arith}
use Rattle.apart.proofs.Comparing.{parting-compares}
use Rattle.apart.proofs.compare.Goals as goal

pub returns : goal.returns
returns c = record { compares = parting-compares c.requires c.first_apart-departs_at.result c.first_apart-departs_at.ensures; longer = omega (arith, c.requires.no-shorter) }
