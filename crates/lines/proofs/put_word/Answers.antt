-- `lines::put_word` meets its contract.
-- Assumes nothing.
use Rattle.lines.proofs.Putting.{word-numbers}
use Rattle.lines.proofs.put_word.Goals as goal

pub returns : goal.returns
returns c =
    let s = c in
    let copied = c.copy-at in
    let put = c.put_spaced in
    word-numbers s.args.word.now s.args.numbers.now s.args.out.now s.requires copied.new.out copied.result copied.ensures.value
    copied.ensures.after put.new.out put.result put.ensures
