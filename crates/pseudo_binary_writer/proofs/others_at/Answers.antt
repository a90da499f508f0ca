-- `pseudo_binary_writer::others_at` meets its contract. Assumes nothing.
use mathlib.Core.Path.{subst⁻¹}
use Prim.Native.Nat.{ℕ, ◌/◌}
use native.Mathlib.Omega.{arith}
use lib.Count.{count_leading_zeros}
use lib.ListN.{take, drop}
use Rattle.pseudo_binary.specs.Table.{values}
use Rattle.pseudo_binary.specs.Writer.{Alike}
use Rattle.pseudo_binary_writer.proofs.Eight.{others, none-borrowed, front-alike}
use Rattle.pseudo_binary_writer.proofs.others_at.Goals as goal

pub overflow_sub-result : goal.overflow_sub-result
overflow_sub-result c =
    omega (arith, c.eight.ensures.0, none-borrowed c.args.text.now c.args.i c.requires.1 c.requires.0)

pub returns : goal.returns
returns c =
    let s = c.args.text.now in
    let i = c.args.i in
    subst⁻¹ (λ (v : ℕ). Alike values (take (count_leading_zeros 64 (others v) / 8) (drop i s))) c.eight.ensures.0
    (front-alike s i c.requires.1 c.requires.0)
