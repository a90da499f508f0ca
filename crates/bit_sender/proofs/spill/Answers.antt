-- `bit_sender::spill` meets its contract. Assumes nothing.
use mathlib.Core.Path.{ap}
use mathlib.Core.List.{List}
use Prim.Native.Nat.{ℕ, ◌-◌}
use native.Mathlib.Omega.{arith}
use lib.ListN.{get_or}
use Rattle.bit_sender.proofs.Spilled.{spill-bytes}
use Rattle.bit_sender.proofs.spill.Goals as goal

pub returns : goal.returns
returns c =
    let byte = λ (i : ℕ). ap (λ (l : List ℕ). get_or l i 0) c.to_be_bytes.ensures in
    spill-bytes c.args.out.now c.args.n c.args.held c.args.have (c.args.have - 32) _ _ _ _ _ _ _ (omega arith) (omega arith) (omega arith) (omega arith)
    (omega (arith, byte 0)) (omega (arith, byte 1)) (omega (arith, byte 2)) (omega (arith, byte 3))
