-- `numeric_reader::put_character` meets its contract. Assumes nothing.
use native.Mathlib.Omega.{arith}
use Rattle.numeric_reader.proofs.EntryLaws.{sign_small}
use Rattle.numeric_reader.proofs.Putting.{room-alone, puts-alone, first-there, room-pair, puts-pair}
use Rattle.numeric_reader.proofs.put_character.Goals as goal

pub bounds-out-n : goal.bounds-out-n
bounds-out-n c =
    let e = c in
    let a = e.args in
    room-alone a.before a.own a.character a.n a.out.now e.requires.0 e.requires.1 c.if-before-own-eq0.true

pub overflow_add-result : goal.overflow_add-result
overflow_add-result c =
    let e = c in
    let a = e.args in
    omega (arith, room-alone a.before a.own a.character a.n a.out.now e.requires.0 e.requires.1 c.if-before-own-eq0.true)

pub overflow_add-result-then-before-own-eq0 : goal.overflow_add-result-then-before-own-eq0
overflow_add-result-then-before-own-eq0 c = let e = c in omega (arith, sign_small e.args.character, e.requires.0)

pub returns-then-before-own-eq0 : goal.returns-then-before-own-eq0
returns-then-before-own-eq0 c =
    let e = c in
    let a = e.args in
    puts-alone a.before a.own a.character a.n a.out.now e.requires.0 e.requires.1 c.if-before-own-eq0.true

pub overflow_sub-n : goal.overflow_sub-n
overflow_sub-n c =
    let e = c in
    let a = e.args in
    first-there a.before a.own a.character a.n a.out.now e.requires.0 e.requires.1 c.if-before-own-eq0.false

pub put_pair-requires : goal.put_pair-requires
put_pair-requires c =
    let e = c in
    let a = e.args in
    room-pair a.before a.own a.character a.n a.out.now e.requires.0 e.requires.1 c.if-before-own-eq0.false

pub returns : goal.returns
returns c =
    let p = c in
    let e = p in
    let a = e.args in
    puts-pair a.before a.own a.character a.n a.out.now e.requires.0 e.requires.1 p.if-before-own-eq0.false p.put_pair.new.out
    p.put_pair.result p.put_pair.ensures.value p.put_pair.ensures.out_after
