-- `report::of_packet` meets its contract: what the reader answered for the buffer that it was lent.
-- The buffer is as long as `reported` says, by an equation.
-- Assumes nothing.
use Prim.Native.Nat.{ℕ}
use native.Mathlib.Omega.{arith}
use lib.ListN.{replicate}
use Rattle.std.proofs.lemmas.List.{length-replicate}
use Rattle.report.specs.declared.TheConstants.{TEXT}
use Rattle.report.proofs.Told.{reported}
use Rattle.report.proofs.of_packet.Goals as goal

pub returns : goal.returns
returns c =
    reported (replicate TEXT 0) _ c.read_mending.result _ _ c.read_mending.ensures (omega arith) (omega arith) (length-replicate {A = ℕ} TEXT 0)
