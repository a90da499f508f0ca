-- `pseudo_binary_reader::repeat` meets its contract. Assumes nothing.
use mathlib.Core.Path.{◌≡◌, ap, ◌∙◌}
use Prim.Native.Nat.{◌+◌, ◌-◌}
use native.Mathlib.Omega.{arith}
use lib.ListN.{drop, replicate, length-drop}
use lib.Seq.{length-take-le}
use Rattle.pseudo_binary_reader.proofs.Repeated.{filled}
use Rattle.pseudo_binary_reader.proofs.repeat.Goals as goal

pub returns : goal.returns
returns c =
    let d = c.args.out.now in
    let n = c.args.n in
    let count = c.args.count in
    let x = c.args.character in
    let size = length-take-le (n + count - n) (drop n d) (omega (arith, length-drop n d, c.requires)) in
    let same : n + count - n ≡ count = omega arith in
    filled d n count x c.fill.new.self (c.fill.ensures.after (λ y h. h) ∙ ap (λ k. replicate k x) (size ∙ same))
