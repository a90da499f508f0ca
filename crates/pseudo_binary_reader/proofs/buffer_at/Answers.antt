-- `pseudo_binary_reader::buffer_at` meets its contract. Assumes nothing.
use mathlib.Core.Path.{◌≡◌, ap, ◌∙◌}
use Prim.Native.Nat.{ℕ, ◌+◌, ◌-◌, ◌/◌, ◌%◌}
use native.Mathlib.Omega.{arith}
use lib.ListN.{get_or}
use Rattle.codes.specs.Steps.BitBuffer.{ahead}
use Rattle.pseudo_binary_reader.proofs.Starts.{ahead_none, ahead-one, ahead-at}
use Rattle.pseudo_binary_reader.proofs.buffer_at.Goals as goal

pub returns-then-first-s : goal.returns-then-first-s
returns-then-first-s c =
    let s = c.args.s.now in
    let at = c.args.at in
    record {
      same = ap (λ (n : ℕ). ahead s 0 n (at / 8)) (let x : 0 ≡ 0 - at % 8 = omega arith in x)
          ∙ ahead-at s 0 0 (at / 8) at (omega arith) (ahead_none s (at / 8));
      within = omega arith;
      few = omega arith;
      enough = λ l. omega arith;
    }

pub returns-then-first-s-2 : goal.returns-then-first-s-2
returns-then-first-s-2 c =
    let s = c.args.s.now in
    let at = c.args.at in
    record {
      same = ahead-at s (get_or s (at / 8) 0) 8 (at / 8 + 1) at (omega arith)
          (ahead-one s (at / 8) (omega (arith, c.if-first-s-2.true)) (omega (arith, c.type_inv.s (at / 8))));
      within = omega (arith, c.if-first-s-2.true);
      few = omega arith;
      enough = λ l. omega (arith, c.if-first-s-2.true);
    }

pub returns : goal.returns
returns c =
    let s = c.args.s.now in
    let at = c.args.at in
    record {
      same = ahead-at s c.pair.result 16 (at / 8 + 2) at (omega arith) c.pair.ensures.0;
      within = omega (arith, c.requires, c.if-first-s-2.false, c.if-first-s.false);
      few = omega arith;
      enough = λ l. omega arith;
    }
