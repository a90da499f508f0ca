-- `pseudo_binary_reader::value_at` meets its contract. Assumes nothing.
use Prim.Native.Nat.{◌+◌, ◌-◌, ◌/◌, ◌%◌}
use native.Mathlib.Omega.{arith}
use lib.ListN.{get_or}
use Rattle.pseudo_binary_reader.proofs.Starts.{ahead-one}
use Rattle.pseudo_binary_reader.proofs.Taking.{value-part}
use Rattle.pseudo_binary_reader.proofs.value_at.Goals as goal

pub returns-then-before-le2 : goal.returns-then-before-le2
returns-then-before-le2 c =
    let s = c.args.s.now in
    let at = c.args.at in (
      value-part s (get_or s (at / 8) 0) 8 (at / 8 + 1) (at / 8) (at % 8) at (2 - at % 8)
          (ahead-one s (at / 8) (omega (arith, c.requires)) (omega (arith, c.type_inv.s (at / 8)))) (omega arith)
          (omega (arith, c.if-before-le2.true)),
      omega arith,
    )

pub returns : goal.returns
returns c =
    let at = c.args.at in (
      value-part c.args.s.now c.pair.result 16 (at / 8 + 2) (at / 8) (at % 8) at (10 - at % 8) c.pair.ensures.0 (omega arith) (omega arith),
      omega arith,
    )
