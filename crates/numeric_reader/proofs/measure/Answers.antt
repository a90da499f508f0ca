-- `numeric_reader::measure` meets its contract. The loop's invariant: the codes of the bytes before i are passed, and `saved` is what their text is shorter
-- by than two characters a byte. Assumes nothing.
use mathlib.Core.List.{List}
use mathlib.Core.Path.{ap, subst}
use Prim.Native.Nat.{ℕ, ◌-◌, ◌*◌}
use native.Mathlib.Omega.{arith}
use lib.ListN.{get_or, drop_of_length-le}
use Rattle.numeric.specs.Steps.Text.{spelled, text_of}
use Rattle.numeric_reader.specs.Steps.Reached.{Reached}
use Rattle.numeric_reader.specs.Steps.Signs.{saves, sign_after}
use Rattle.numeric_reader.proofs.Counting.{counts-first}
use Rattle.numeric_reader.proofs.Pairs.{one-small}
use Rattle.numeric_reader.proofs.Reading.{reached-none, reached-end, measured}
use Rattle.numeric_reader.proofs.measure.Goals as goal

pub returns-then-s-eq0 : goal.returns-then-s-eq0
unfolding spelled text_of
returns-then-s-eq0 c =
    let s = c.args.s.now in
    let end =
    reached-end
    (subst (λ (l : List ℕ). Reached (text_of s) l 0 0) (ap spelled (drop_of_length-le s {i = 0} (omega arith))) (reached-none (spelled s))) in
    measured s _ _ (omega (arith, end)) (omega arith)

pub loop-i-init : goal.loop-i-init
loop-i-init c =
    let k = c in
    let s = k.args.s.now in
    let small = one-small (saves (get_or s 0 0)) in (
      omega arith,
      omega arith,
      omega arith,
      omega (arith, c.saved_by-saved.ensures),
      counts-first s (omega arith) (omega (arith, k.type_inv.s 0)) c.saved_by-saved.ensures (omega (arith, c.saved_by-saved.ensures)),
    )

pub returns : goal.returns
unfolding spelled
returns c =
    let a = c in
    let s = a.args.s.now in
    let end =
    reached-end
    (subst (λ (l : List ℕ). Reached (text_of s) l (sign_after (get_or s (a.loop-i.i - 1) 0)) (a.loop-i.i * 2 - a.loop-i.saved))
    (ap spelled (drop_of_length-le s {i = a.loop-i.i} (omega arith))) a.loop-i.invariant.4) in
    measured s _ _ (omega (arith, end)) (omega arith)
