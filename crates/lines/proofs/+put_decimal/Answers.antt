-- `lines::put_decimal` meets its contract: its last digit is put behind what a tenth of the number is.
-- Assumes nothing.
use Prim.Native.Nat.{ℕ, ◌+◌, ◌%◌, ◌<◌}
use native.Mathlib.Omega.{arith}
use mathlib.Core.Path.{ap}
use lib.ListN.{length, set}
use Rattle.lines.specs.Line.{digit, decimal}
use Rattle.lines.specs.Steps.Put.{PutsRow}
use Rattle.lines.proofs.Decimal.{decimal-small}
use Rattle.lines.proofs.Putting.{puts-small, tenth-held, puts-large}
use Rattle.lines.proofs.+put_decimal.Goals.{After-put_decimal-last}
use Rattle.lines.proofs.+put_decimal.Goals as goal

pub bounds-out-at : goal.bounds-out-at
bounds-out-at t c = omega (arith, ap length (decimal-small c.args.n (omega arith)))

pub returns-then-n-lt10 : goal.returns-then-n-lt10
returns-then-n-lt10 t c =
    puts-small c.args.n c.args.out.now c.args.at (omega arith)
    (omega (arith, ap length (decimal-small c.args.n (omega arith))))

pub put_decimal-last-requires : goal.put_decimal-last-requires
put_decimal-last-requires t c =
    (omega (arith, c.decreases), omega (arith, tenth-held c.args.n c.ranges.n.fits (omega arith) c.args.out.now c.args.at c.requires))

-- behind what a tenth of the number is, its last digit
last-digit : (t : ℕ) (c : After-put_decimal-last t)
    → (c.put_decimal-last.result < length c.put_decimal-last.new.out)
    × PutsRow (decimal c.args.n) c.args.out.now
    (set c.put_decimal-last.new.out c.put_decimal-last.result (digit (c.args.n % 10))) c.args.at (c.put_decimal-last.result + 1)
last-digit t c =
    puts-large c.args.n c.ranges.n.fits (omega arith) c.args.out.now c.args.at c.requires
    c.put_decimal-last.new.out c.put_decimal-last.result c.put_decimal-last.ensures

pub bounds-out-last : goal.bounds-out-last
bounds-out-last t c = (last-digit t (goal.at.bounds-out-last t c).After-put_decimal-last).0

pub overflow_add-result-2 : goal.overflow_add-result-2
overflow_add-result-2 t c = omega (arith, (last-digit t (goal.at.overflow_add-result-2 t c).After-put_decimal-last).0)

pub returns : goal.returns
returns t c = (last-digit t (goal.at.returns t c).After-put_decimal-last).1
