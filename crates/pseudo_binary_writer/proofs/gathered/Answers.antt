-- `pseudo_binary_writer::gathered` meets its contract. Assumes nothing.
use mathlib.Core.Path.{ap, ◌∙◌}
use Prim.Native.Nat.{ℕ}
use Rattle.pseudo_binary_writer.proofs.Gathering.{pairs, fours, gathered}
use Rattle.pseudo_binary_writer.proofs.gathered.Goals as goal

pub returns : goal.returns
returns c =
    ap (λ (x : ℕ). fours (pairs x)) c.eight-word.ensures.0 ∙ gathered c.args.text.now c.eight-word.ensures.1 c.args.i
