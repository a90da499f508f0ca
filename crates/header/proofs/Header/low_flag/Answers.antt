-- `header::Header::low_flag` meets its contract.
-- Assumes nothing.
use native.Mathlib.Omega.{arith}
use Rattle.header.specs.Fields.{low_flag}
use Rattle.header.proofs.Header.low_flag.Goals as goal

pub returns : goal.returns
unfolding low_flag
returns c = omega arith
