-- `numeric_reader::pass_pair` meets its contract. Assumes nothing.
use native.Mathlib.Omega.{arith}
use Rattle.numeric_reader.proofs.Passing.{passes-pair, passes-second}
use Rattle.numeric_reader.proofs.pass_pair.Goals as goal

pub returns-then-before-first-eq0 : goal.returns-then-before-first-eq0
returns-then-before-first-eq0 c =
    let t = c in
    let e = t in
    passes-pair e.args.before e.requires.0 e.args.entry e.requires.1 c.fewer.result e.requires.2
    (omega (arith, t.if-before-first-eq0.true)) c.fewer.ensures

pub returns : goal.returns
returns c =
    let t = c in
    let e = t in
    passes-second e.args.before e.requires.0 e.args.entry e.requires.1 c.fewer-2.result t.if-before-first-eq0.false c.fewer-2.ensures
