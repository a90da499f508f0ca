-- `register::side_by_side` meets its contract.
-- Assumes nothing.
use Prim.Native.Nat.{◌+◌}
use native.Mathlib.Omega.{arith}
use Rattle.register.proofs.Together.{none-taken, one_more}
use Rattle.register.proofs.side_by_side.Goals as goal

pub loop-k-init : goal.loop-k-init
loop-k-init c =
    let bytes = c.args.«data».now in
    record {
      first = none-taken c.args.register bytes 0;
      second = none-taken 0 bytes 24;
      third = none-taken 0 bytes 48;
      fourth = none-taken 0 bytes 72;
    }

pub loop-k-preserved : goal.loop-k-preserved
loop-k-preserved c =
    let bytes = c.args.«data».now in
    let k = c.loop-k.k in
    let passed = c.loop-k.invariant in
    let turned = c.turn-parts.ensures in
    record {
      first = one_more k c.args.register bytes 0 k (omega arith) (omega arith) passed.first turned.first;
      second = one_more k 0 bytes 24 (k + 24) (omega arith) (omega arith) passed.second turned.second;
      third = one_more k 0 bytes 48 (k + 48) (omega arith) (omega arith) passed.third turned.third;
      fourth = one_more k 0 bytes 72 (k + 72) (omega arith) (omega arith) passed.fourth turned.fourth;
    }
