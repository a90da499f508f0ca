-- `numeric_reader::put_pair` meets its contract. Assumes nothing.
use mathlib.Core.Path.{sym, ap}
use native.Mathlib.Omega.{arith}
use lib.ListN.{length, length-set}
use Rattle.numeric_reader.proofs.Pairs.{pair-number, pair_line, pairs-some, puts_one, puts-line}
use Rattle.numeric_reader.proofs.put_pair.Goals as goal

pub bounds-out-n : goal.bounds-out-n
bounds-out-n c = let a = c.args in omega (arith, pairs-some a.one a.other)

pub returns-then-one-lt4 : goal.returns-then-one-lt4
returns-then-one-lt4 c =
    let e = c in
    let a = e.args in
    record { value = (puts_one a.one a.other a.out.now a.n (sym c.one_character.ensures) e.requires).0; out_after = (puts_one a.one a.other a.out.now a.n (sym c.one_character.ensures) e.requires).1 }

pub bounds-out-n-then-other-lt4 : goal.bounds-out-n-then-other-lt4
bounds-out-n-then-other-lt4 c = let a = c.args in omega (arith, pairs-some a.one a.other)

pub returns-then-other-lt4 : goal.returns-then-other-lt4
returns-then-other-lt4 c =
    let e = c in
    let a = e.args in
    record { value = (puts_one a.one a.other a.out.now a.n (pair-number _ _ (omega arith) (omega arith)) e.requires).0; out_after = (puts_one a.one a.other a.out.now a.n (pair-number _ _ (omega arith) (omega arith)) e.requires).1 }

pub bounds-out-n-2 : goal.bounds-out-n-2
bounds-out-n-2 c = let a = c.args in omega (arith, pairs-some a.one a.other)

pub bounds-out-n-3 : goal.bounds-out-n-3
bounds-out-n-3 c =
    let a = c.args in
    simp length-set (omega (arith, ap length (pair_line a.one a.other (omega arith) (omega arith))))

pub returns : goal.returns
returns c =
    let e = c in
    let a = e.args in
    record { value = (puts-line a.one a.other a.out.now a.n (pair_line _ _ (omega arith) (omega arith)) e.requires).0; out_after = (puts-line a.one a.other a.out.now a.n (pair_line _ _ (omega arith) (omega arith)) e.requires).1 }
