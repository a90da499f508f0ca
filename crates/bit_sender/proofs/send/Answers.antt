-- `bit_sender::send` meets its contract. Assumes nothing.
use mathlib.Core.Path.{◌≡◌, sym, ap}
use Prim.Native.Nat.{ℕ, ◌+◌, ◌*◌, ◌/◌}
use native.Mathlib.Omega.{arith}
use Rattle.codes.specs.Steps.EightBytes.{spilled}
use Rattle.bit_sender.proofs.send.Goals as goal

pub returns-then-have-lt32 : goal.returns-then-have-lt32
unfolding spilled
returns-then-have-lt32 c =
    let a = c.args in
    let none : (a.b.have + a.width) / 32 * 4 ≡ 0 = omega arith in
    record {
      held = c.push-held.ensures;
      have = omega arith;
      place = omega arith;
      whole = sym (ap (λ (k : ℕ). spilled k a.out.now a.b.n c.push-held.result (a.b.have + a.width)) none);
    }
