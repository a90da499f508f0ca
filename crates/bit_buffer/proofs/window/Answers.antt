-- `bit_buffer::window` meets its contract. Assumes nothing.
use mathlib.Core.Path.{subst⁻¹}
use Prim.Native.Nat.{ℕ, ◌-◌}
use native.Mathlib.Omega.{arith}
use Rattle.codes.specs.Steps.BitBuffer.{Window}
use Rattle.codes.proofs.BitBuffer.{window-whole, window-short, one_shifted, held-shifted}
use Rattle.bit_buffer.proofs.window.Goals as goal

pub returns-then-have-ge9 : goal.returns-then-have-ge9
returns-then-have-ge9 c =
    subst⁻¹ (Window c.args.held c.args.have) (omega arith)
    (window-whole c.args.held c.args.have c.if-have-ge9.true)

pub returns : goal.returns
returns c =
    let held : ℕ = c.args.held in
    let have : ℕ = c.args.have in
    let k : ℕ = 9 - have in
    window-short held have _ c.if-have-ge9.false
    (omega (arith, held-shifted held have k (omega arith), one_shifted k (omega arith)))
