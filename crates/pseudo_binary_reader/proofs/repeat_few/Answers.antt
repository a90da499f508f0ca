-- `pseudo_binary_reader::repeat_few` meets its contract. Assumes nothing.
use mathlib.Core.Path.{◌≡◌, sym, ap, ◌∙◌}
use Prim.Native.Nat.{ℕ, ◌+◌}
use native.Mathlib.Omega.{arith}
use lib.ListN.{replicate, set}
use Rattle.codes.specs.Steps.Laid.{laid}
use Rattle.codes.proofs.LaidRows.{laid_nil, set-laid, set-laid-two}
use Rattle.pseudo_binary_reader.proofs.Repeated.{repeated-more}
use Rattle.pseudo_binary_reader.proofs.repeat_few.Goals.{Else-count-eq2}
use Rattle.pseudo_binary_reader.proofs.repeat_few.Goals as goal

pub returns-then-count-eq0 : goal.returns-then-count-eq0
returns-then-count-eq0 c =
    sym (laid_nil c.args.out.now c.args.n)
    ∙ ap (λ (k : ℕ). laid c.args.out.now c.args.n (replicate k c.args.character)) (sym c.if-count-eq0.true)

pub returns-then-count-eq1 : goal.returns-then-count-eq1
returns-then-count-eq1 c =
    set-laid c.args.out.now c.args.n c.args.character (omega (arith, c.requires, c.if-count-eq1.true))
    ∙ ap (λ (k : ℕ). laid c.args.out.now c.args.n (replicate k c.args.character)) (sym c.if-count-eq1.true)

pub returns-then-count-eq2 : goal.returns-then-count-eq2
returns-then-count-eq2 c =
    let x = c.args.character in
    set-laid-two c.args.out.now c.args.n x x (omega (arith, c.requires, c.if-count-eq2.true))
    ∙ ap (λ (k : ℕ). laid c.args.out.now c.args.n (replicate k x)) (let two : 2 ≡ c.args.count = omega (arith, c.if-count-eq2.true) in two)

-- after two there is a third
many : (c : Else-count-eq2) → c.args.count ≡ 3
many c = omega (arith, c.requires, c.if-count-eq2.false, c.if-count-eq1.false, c.if-count-eq0.false)

pub returns : goal.returns
returns c =
    let d = c.args.out.now in
    let n = c.args.n in
    let x = c.args.character in
    repeated-more d (set (set d n x) (n + 1) x) n 2 x (set-laid-two d n x x (omega (arith, c.requires, many c))) (omega (arith, c.requires, many c))
    ∙ ap (λ (k : ℕ). laid d n (replicate k x)) (sym (many c))
