-- `bit_buffer::eight` meets its contract. Assumes nothing.
use Prim.Native.Nat.{◌+◌}
use native.Mathlib.Omega.{arith}
use Rattle.codes.specs.Steps.EightBytes.{four_at, eight_at}
use Rattle.codes.proofs.EightBytes.{four-at}
use Rattle.bit_buffer.proofs.eight.Goals as goal

pub returns : goal.returns
unfolding eight_at four_at
returns c =
    let s = c.args.s.now in
    let at = c.args.at in (
      omega (arith, c.from_be_bytes.ensures, four-at s (at + 4) (at + 5) (at + 6) (at + 7) (omega arith) (omega arith) (omega arith)),
      λ i. omega (arith, c.type_inv.s i),
    )
