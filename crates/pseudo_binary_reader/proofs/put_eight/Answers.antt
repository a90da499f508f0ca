-- `pseudo_binary_reader::put_eight` meets its contract. Assumes nothing.
use Rattle.pseudo_binary_reader.proofs.Taking.{eight-laid}
use Rattle.pseudo_binary_reader.proofs.put_eight.Goals as goal

pub returns : goal.returns
returns c =
    λ bs eight.
    eight-laid bs c.args.out.now c.spill.new.out c.spill-2.new.out c.args.n c.args.word c.requires eight
    c.spill.ensures c.spill-2.ensures
