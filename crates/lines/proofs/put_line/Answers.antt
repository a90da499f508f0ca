-- `lines::put_line` meets its contract.
-- Assumes nothing.
use Rattle.lines.proofs.Told.{end-held, line-put, word_held, behind-numbers}
use Rattle.lines.proofs.put_line.Goals as goal

pub put_word-end-requires : goal.put_word-end-requires
put_word-end-requires c =
    let s = c in
    word_held s.args.word.now s.args.numbers.now s.args.out.now s.requires

pub put_end-requires : goal.put_end-requires
put_end-requires c =
    let put = c in
    let s = put in
    end-held (behind-numbers s.args.word.now s.args.numbers.now s.args.out.now s.requires put.put_word-end.new.out put.put_word-end.result put.put_word-end.ensures)

pub returns : goal.returns
returns c =
    let put = c in
    let s = put in
    line-put
    (behind-numbers s.args.word.now s.args.numbers.now s.args.out.now s.requires put.put_word-end.new.out put.put_word-end.result put.put_word-end.ensures)
    c.put_end.ensures
