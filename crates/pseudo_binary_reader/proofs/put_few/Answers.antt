-- `pseudo_binary_reader::put_few` meets its contract. The loop's invariant: the characters of `done` values are laid, and the others are at the top of
-- what is left. Assumes nothing.
use mathlib.Core.Path.{refl, ◌∙◌}
use Prim.Native.Nat.{◌*◌, ◌/◌, ◌^◌}
use native.Mathlib.Nat.{mod-lt}
use native.Mathlib.Omega.{arith}
use lib.ListN.{length-set}
use lib.Pow.{pow_pos}
use Rattle.pseudo_binary_reader.proofs.Taking.{taken_none, taken-one, left-all, left-first, left-next}
use Rattle.pseudo_binary_reader.proofs.put_few.Goals as goal

pub loop-done-init : goal.loop-done-init
loop-done-init c = (
  omega arith,
  omega (arith, c.well_formed),
  refl,
  λ bs eight. (left-all bs c.args.word eight, taken_none bs c.args.out.now c.args.n),
)

pub loop-done-preserved : goal.loop-done-preserved
loop-done-preserved c =
    let left = c.loop-done.left in
    let done = c.loop-done.done in (
      omega arith,
      mod-lt (left * 2 ^ 8) (pow_pos 64),
      length-set c.loop-done.out _ (left / 2 ^ 56) ∙ c.loop-done.invariant.2,
      λ bs eight.
          let y = c.loop-done.invariant.3 bs eight in (
            left-next bs done left y.0,
            taken-one bs c.args.out.now c.loop-done.out c.args.n done y.1 (omega (arith, c.requires)) (left / 2 ^ 56) (omega (arith, c.requires))
                (left-first bs done left (omega (arith, c.requires)) c.loop-done.invariant.1 y.0),
          ),
    )
