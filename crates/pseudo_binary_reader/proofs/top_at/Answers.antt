-- `pseudo_binary_reader::top_at` meets its contract. Assumes nothing.
use Rattle.pseudo_binary_reader.proofs.Starts.{top-word}
use Rattle.pseudo_binary_reader.proofs.top_at.Goals as goal

pub returns : goal.returns
returns c =
    top-word c.args.s.now c.args.at c.eight.result c.requires c.eight.ensures.1 c.eight.ensures.0
