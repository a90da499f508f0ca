-- `pseudo_binary_reader::eight_characters` meets its contract. Assumes nothing.
use mathlib.Core.Path.{subst}
use Prim.Native.Nat.{ℕ, ◌/◌, ◌%◌, ◌^◌}
use Rattle.pseudo_binary_reader.specs.Steps.Taken.{Spread}
use Rattle.pseudo_binary_reader.proofs.Taking.{word-eight}
use Rattle.pseudo_binary_reader.proofs.eight_characters.Goals as goal

pub returns : goal.returns
returns c =
    λ at place.
    word-eight c.args.s.now c.args.first c.args.behind at c.spread.result c.requires.0 c.eight.ensures.1 place c.requires.1
    (subst (λ (x : ℕ). Spread (x / 2 ^ c.args.behind % 2 ^ 48) c.spread.result) c.eight.ensures.0 c.spread.ensures)
