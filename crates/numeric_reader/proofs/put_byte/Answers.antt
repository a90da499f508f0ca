-- `numeric_reader::put_byte` meets its contract. Assumes nothing.
use Prim.Native.Nat.{◌+◌, ◌≤◌}
use native.Mathlib.Omega.{arith}
use lib.ListN.{length, length-set}
use Rattle.numeric_reader.proofs.EntryLaws.{entry_first, entry-second}
use Rattle.numeric_reader.proofs.Putting.{room-two, puts-two, fits-first, fits-second, puts-both}
use Rattle.numeric_reader.proofs.put_byte.Goals.{Then-before-entry-eq0}
use Rattle.numeric_reader.proofs.put_byte.Goals as goal

room : (c : Then-before-entry-eq0) → c.args.n + 2 ≤ length c.args.out.now
room c =
    let e = c in
    room-two e.args.before e.args.entry e.args.n e.args.out.now e.requires.0 e.requires.1 c.if-before-entry-eq0.true

pub bounds-out-n : goal.bounds-out-n
bounds-out-n c = omega (arith, room c)

pub overflow_add-out : goal.overflow_add-out
overflow_add-out c = omega (arith, room c)

pub bounds-out-n-then-before-entry-eq0 : goal.bounds-out-n-then-before-entry-eq0
bounds-out-n-then-before-entry-eq0 c = simp length-set (omega (arith, room c))

pub overflow_add-result : goal.overflow_add-result
overflow_add-result c = omega (arith, room c)

pub returns-then-before-entry-eq0 : goal.returns-then-before-entry-eq0
returns-then-before-entry-eq0 c =
    let e = c in
    puts-two e.args.before e.args.entry e.args.n e.args.out.now e.requires.0 e.requires.1 c.if-before-entry-eq0.true (omega arith)

pub put_character-middle-requires : goal.put_character-middle-requires
put_character-middle-requires c =
    let e = c in
    (entry_first e.args.entry e.requires.0, fits-first e.requires.1)

pub put_character-requires : goal.put_character-requires
put_character-requires c =
    let p = c in
    let e = p in
    (entry-second e.args.entry e.requires.0, fits-second p.put_character-middle.result e.requires.1 p.put_character-middle.ensures)

pub returns : goal.returns
returns c =
    let q = c in
    let p = q in
    puts-both p.put_character-middle.result q.put_character.result p.put_character-middle.ensures q.put_character.ensures
