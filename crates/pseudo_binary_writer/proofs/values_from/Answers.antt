-- `pseudo_binary_writer::values_from` meets its contract. Assumes nothing.
use mathlib.Core.Path.{sym, ap, ◌∙◌}
use mathlib.Core.List.{List}
use Prim.Native.Nat.{ℕ, ◌+◌, ◌-◌}
use native.Mathlib.Omega.{arith}
use lib.ListN.{drop, length-drop}
use lib.Seq.{drop-drop}
use Rattle.pseudo_binary.specs.Table.{values}
use Rattle.pseudo_binary.specs.Writer.{run}
use Rattle.pseudo_binary_writer.proofs.Counting.{run_past, run-other, run_on, run-whole}
use Rattle.pseudo_binary_writer.proofs.Ranges.{below, values-between, high_value}
use Rattle.pseudo_binary_writer.proofs.values_from.Goals as goal

pub loop-n-init : goal.loop-n-init
loop-n-init c =
    let t = c.args.text.now in
    let i = c.args.i in
    let n = c.args.known in (
      omega arith,
      ap (λ (l : List ℕ). n + run values (c.args.most - n) l) (sym (drop-drop n i t))
          ∙ run_past values n c.args.most (drop i t) (omega arith) (omega (arith, length-drop i t)) c.requires.known_le_most.2,
    )

pub returns-then-text-i-lt63 : goal.returns-then-text-i-lt63
returns-then-text-i-lt63 c =
    let n = c.loop-n.n in
    omega (
      arith,
      run-other values (c.args.most - n) c.args.text.now (c.args.i + n) (omega arith) (below values 63 127 _ values-between c.if-text-i-lt63.true),
      c.loop-n.invariant.1,
    )

pub loop-n-preserved : goal.loop-n-preserved
loop-n-preserved c =
    let t = c.args.text.now in
    let i = c.args.i in
    let n = c.loop-n.n in (
      omega arith,
      run_on values c.args.most n t i (run values c.args.most (drop i t)) (omega arith) (omega arith)
          (high_value _ (c.requires.all_coded (i + n) (omega arith)) c.if-text-i-lt63.false) c.loop-n.invariant.1,
    )

pub returns : goal.returns
returns c =
    omega (
      arith,
      run-whole values c.args.most c.loop-n.n c.min-end.result c.args.text.now c.args.i (omega arith) c.loop-n-test.false (omega arith),
      c.loop-n.invariant.1,
    )
