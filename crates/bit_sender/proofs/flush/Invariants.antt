-- `bit_sender::flush` meets its contract. The loop's invariant: the bytes so far are laid, and `left` bits and the fill are pending.
-- Assumes nothing.
use mathlib.Core.Path.{◌≡◌}
use mathlib.Core.List.{List}
use Prim.Native.Nat.{ℕ, ◌+◌, ◌*◌, ◌≤◌}
use lib.ListN.{replicate}
use Rattle.codes.specs.Pack.{low, packed, filled, gap}
use Rattle.codes.specs.Steps.Pending.{Pending}
use Rattle.bit_sender.proofs.flush.Given as goal

-- the last bytes
abbrev pub last : ℕ → ℕ → List ℕ
last held have = packed (filled (low have held))

abbrev pub invariant-loop-left : goal.invariant-loop-left
invariant-loop-left l = (l.left ≤ l.have) × (l.have + 8 * l.at ≡ 8 * l.n + l.left) × Pending (last l.held l.have) l.initial.out l.out l.at l.n l.held l.left (replicate (gap l.have) 1)

abbrev pub decreases-loop-left : goal.decreases-loop-left
decreases-loop-left l = l.left
