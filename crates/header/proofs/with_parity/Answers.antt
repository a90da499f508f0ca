-- `header::with_parity` meets its contract.
-- Assumes nothing.
use mathlib.Core.Path.{◌≡◌, sym, ap, ◌∙◌, subst}
use Prim.Native.Nat.{ℕ, ◌+◌, ◌*◌, ◌/◌, ◌%◌, ◌^◌, ◌<◌}
use native.Mathlib.Omega.{arith}
use Rattle.header.specs.Flag.{Odd, parity_for}
use Rattle.header.specs.Steps.Differences.{WithParity}
use Rattle.header.specs.Valid.{flag_in}
use Rattle.header.proofs.Made.{parity-lt, parity-odd}
use Rattle.header.proofs.with_parity.Goals as goal

-- a parity bit above the 31 others stands above the seven low bits of their flag
above : (p h : ℕ) → p < 2 → flag_in (p * 2 ^ 31 + h % 2 ^ 31) ≡ p * 2 ^ 7 + h / 2 ^ 24 % 2 ^ 7
unfolding flag_in
above p h lt = omega arith

paired : (p h : ℕ) → p ≡ parity_for (h / 2 ^ 24 % 2 ^ 7) → WithParity h (p * 2 ^ 31 + h % 2 ^ 31)
paired p h e =
    let low : h / 2 ^ 24 % 2 ^ 7 < 2 ^ 7 = omega arith in
    record {
      odd =
          subst Odd (sym (above p h (omega (arith, parity-lt (h / 2 ^ 24 % 2 ^ 7))) ∙ ap (λ (n : ℕ). n * 2 ^ 7 + h / 2 ^ 24 % 2 ^ 7) e))
          (parity-odd (h / 2 ^ 24 % 2 ^ 7) low);
      low = omega arith;
    }

pub overflow_mul-result : goal.overflow_mul-result
overflow_mul-result c = omega (arith, parity-lt (c.args.word / 2 ^ 24 % 2 ^ 7))

pub overflow_add-result : goal.overflow_add-result
overflow_add-result c = omega (arith, parity-lt (c.args.word / 2 ^ 24 % 2 ^ 7))

pub returns : goal.returns
returns c = paired c.parity_for.result c.args.word c.parity_for.ensures
