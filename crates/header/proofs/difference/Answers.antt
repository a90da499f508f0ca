-- `header::difference` meets its contract.
-- Assumes nothing.
use mathlib.Core.Path.{sym, ap, ◌∙◌}
use Prim.Native.Nat.{ℕ, ◌%◌, ◌^◌}
use lib.Bits.{bit_xor}
use Rattle.header.specs.Check.{check_of}
use Rattle.header.specs.Steps.Differences.{difference_in}
use Rattle.header.specs.Valid.{check_in}
use Rattle.header.proofs.Made.{information-in}
use Rattle.header.proofs.difference.Goals as goal

pub returns : goal.returns
unfolding check_in difference_in
returns c =
    let h = c.args.word in
    ap (λ (n : ℕ). bit_xor n (h % 2 ^ 10)) (c.check_bits.ensures ∙ ap check_of (sym (information-in h)))
