-- `numeric_reader::count_byte` meets its contract. Assumes nothing.
use mathlib.Core.Path.{refl}
use Prim.Native.Nat.{◌+◌, ◌*◌, ◌/◌, ◌%◌}
use native.Mathlib.Omega.{arith}
use Rattle.numeric_reader.specs.Steps.Signs.{saves}
use Rattle.numeric_reader.proofs.Counting.{counted-told}
use Rattle.numeric_reader.proofs.Pairs.{one-small}
use Rattle.numeric_reader.proofs.count_byte.Goals as goal

pub overflow_add-result : goal.overflow_add-result
overflow_add-result c =
    let a = c.args in
    omega (
      arith,
      one-small (saves (a.before % 16 * 16 + a.b / 16)),
      one-small (saves a.b),
      c.saved_by.ensures,
      c.saved_by-2.ensures,
    )

pub returns : goal.returns
returns c =
    let p = c in
    let a = p.args in
    counted-told a.before a.b _ (omega arith) refl p.saved_by.ensures c.saved_by-2.ensures
    c.is_pair.ensures c.is_pair-2.ensures c.is_pair-3.ensures
