-- `pseudo_binary_writer::coded_length` meets its contract. The loop's invariant: the bits so far and those of the rest are those of the whole.
-- Assumes nothing.
use mathlib.Core.Path.{◌≡◌, ap}
use mathlib.Core.List.{List}
use Prim.Native.Nat.{ℕ, ◌+◌, ◌≤◌}
use native.Mathlib.Omega.{arith}
use lib.ListN.{length, drop, length-drop}
use lib.Seq.{drop-drop}
use Rattle.codes.specs.Chain.{codes}
use Rattle.codes.proofs.BitsInBytes.{length-written}
use Rattle.pseudo_binary.specs.Writer.{ours}
use Rattle.pseudo_binary_writer.proofs.Announced.{ours-end}
use Rattle.pseudo_binary_writer.proofs.Extents.{Parted, parted}
use Rattle.pseudo_binary_writer.proofs.coded_length.Goals.{After-next_extent-extent}
use Rattle.pseudo_binary_writer.proofs.coded_length.Goals as goal

-- what the next indicator takes
next : (f : After-next_extent-extent)
    → Parted (drop f.loop-i.i f.args.text.now) f.next_extent-extent.result
next f =
    parted (drop f.loop-i.i f.args.text.now) f.next_extent-extent.result f.next_extent-extent.ensures

-- after it the text goes on, and the sum is the same
within : (f : After-next_extent-extent)
    → f.loop-i.i + f.next_extent-extent.result.count ≤ length f.args.text.now
within f =
    omega (arith, (next f).within, length-drop f.loop-i.i f.args.text.now)

sum : (f : After-next_extent-extent)
    → f.loop-i.n + f.next_extent-extent.result.bits
    + length (codes (ours (drop (f.loop-i.i + f.next_extent-extent.result.count) f.args.text.now)))
    ≡ length (codes (ours f.args.text.now))
sum f =
    omega (
      arith,
      (next f).sum,
      f.loop-i.invariant.2,
      ap (λ (l : List ℕ). length (codes (ours l))) (drop-drop f.next_extent-extent.result.count f.loop-i.i f.args.text.now),
    )

pub returns-then-limit-n : goal.returns-then-limit-n
returns-then-limit-n c =
    let f' = (goal.at.returns-then-limit-n c).After-next_extent-extent in
    (f'.requires, omega (arith, sum f', length-written (ours f'.args.text.now)))

pub loop-i-preserved : goal.loop-i-preserved
loop-i-preserved c =
    let f' = (goal.at.loop-i-preserved c).After-next_extent-extent in
    (within f', omega (arith, c.if-limit-n.false), sum f')

pub returns : goal.returns
unfolding ours
returns c =
    let t = c.args.text.now in
    let all : c.loop-i.n ≡ length (codes (ours t)) =
    omega (arith, ap length (ours-end t c.loop-i.i 0 c.loop-i-test.false), c.loop-i.invariant.2) in
    (c.requires, omega (arith, all, length-written (ours t)), omega (arith, c.loop-i.invariant.1))
