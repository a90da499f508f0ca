-- `pseudo_binary_writer::run_of` meets its contract. Assumes nothing.
use mathlib.Core.Path.{◌≡◌, ap, ◌∙◌}
use mathlib.Core.List.{List}
use Prim.Native.Nat.{ℕ, ◌+◌, ◌-◌}
use native.Mathlib.Omega.{arith}
use lib.ListN.{drop}
use Rattle.pseudo_binary.specs.Table.{Kind}
use Rattle.pseudo_binary.specs.Writer.{run}
use Rattle.pseudo_binary_writer.proofs.Counting.{run-other, run_on, run-whole}
use Rattle.pseudo_binary_writer.proofs.Ranges.{another, inside}
use Rattle.pseudo_binary_writer.proofs.run_of.Goals as goal

-- nothing is passed yet
none : (k : Kind) (most i : ℕ) (t : List ℕ) → 0 + run k (most - 0) (drop (i + 0) t) ≡ run k most (drop i t)
none k most i t =
    omega (
      arith,
      ap (λ (j : ℕ). run k (most - 0) (drop j t)) (let x : i + 0 ≡ i = omega arith in x)
          ∙ ap (λ (j : ℕ). run k j (drop i t)) (let x : most - 0 ≡ most = omega arith in x),
    )

pub returns-then-text-i : goal.returns-then-text-i
returns-then-text-i c k b =
    let n = c.loop-n.n in
    omega (
      arith,
      run-other k (c.args.most - n) c.args.text.now (c.args.i + n) (omega arith) (another k c.args.character _ b c.if-text-i.true),
      c.loop-n.invariant.1 k b,
    )

pub loop-n-preserved : goal.loop-n-preserved
loop-n-preserved c =
    let t = c.args.text.now in
    let i = c.args.i in (
      omega arith,
      λ k b.
          run_on k c.args.most c.loop-n.n t i (run k c.args.most (drop i t)) (omega arith) (omega arith)
          (inside k c.args.character c.args.character _ b (omega (arith, c.if-text-i.false)) (omega (arith, c.if-text-i.false))) (c.loop-n.invariant.1 k b),
    )

-- at the end as many as are counted are passed, or the whole text
pub returns : goal.returns
returns c k b =
    omega (
      arith,
      run-whole k c.args.most c.loop-n.n c.min-end.result c.args.text.now c.args.i (omega arith) c.loop-n-test.false (omega arith),
      c.loop-n.invariant.1 k b,
    )
