-- `header::parity_for` meets its contract.
-- Assumes nothing.
use mathlib.Core.Path.{ap}
use Prim.Native.Nat.{ℕ, ◌+◌, ◌%◌}
use Rattle.bits.proofs.Ones.{ones-all}
use Rattle.header.specs.Flag.{parity_for}
use Rattle.header.proofs.parity_for.Goals as goal

pub returns : goal.returns
unfolding parity_for
returns c = ap (λ (n : ℕ). (n + 1) % 2) (ones-all 7 c.args.low c.requires)
