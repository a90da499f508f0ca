-- `pseudo_binary_reader::read_values` meets its contract. Assumes nothing.
use mathlib.Core.Path.{sym, ap, subst, ◌∙◌}
use mathlib.Core.List.{List}
use Prim.Native.Nat.{ℕ, ◌+◌}
use native.Mathlib.Omega.{arith}
use lib.ListN.{drop}
use lib.Seq.{drop-drop}
use Rattle.bits.specs.Row.{bits}
use Rattle.codes.specs.Steps.Laid.{laid}
use Rattle.pseudo_binary_reader.specs.Steps.Taken.{Eight, characters_in}
use Rattle.pseudo_binary_reader.proofs.Taking.{top-eight}
use Rattle.pseudo_binary_reader.proofs.read_values.Goals.{After-spread-word}
use Rattle.pseudo_binary_reader.proofs.read_values.Goals as goal

-- the first eight values
eight : (w : After-spread-word) → Eight (drop (w.args.at + 8) (bits w.args.s.now)) w.spread-word.result
eight w =
    let row = bits w.args.s.now in
    subst (λ (l : List ℕ). Eight l w.spread-word.result) (drop-drop 8 w.args.at row)
    (top-eight (drop w.args.at row) w.args.top w.spread-word.result w.requires.s_len_bound.2 w.spread-word.ensures)

pub returns-then-count-lt8 : goal.returns-then-count-lt8
returns-then-count-lt8 c =
    let w' = (goal.at.returns-then-count-lt8 c).After-spread-word in
    c.put_few.ensures (drop (w'.args.at + 8) (bits w'.args.s.now)) (eight w')

pub returns-then-count-eq8 : goal.returns-then-count-eq8
returns-then-count-eq8 c =
    let w' = (goal.at.returns-then-count-eq8 c).After-spread-word in
    let bs = drop (w'.args.at + 8) (bits w'.args.s.now) in
    c.put_eight.ensures bs (eight w')
    ∙ ap (λ (k : ℕ). laid w'.args.out.now w'.args.n (characters_in k bs)) (sym c.if-count-eq8.true)

pub read_many-requires : goal.read_many-requires
read_many-requires c =
    let w' = (goal.at.read_many-requires c).After-spread-word in
    record { s_len_bound = (w'.requires.s_len_bound.0, omega arith, omega (arith, w'.requires.s_len_bound.1), eight w'); lt_count = (omega (arith, c.if-count-eq8.false, c.if-count-lt8.false), w'.requires.count_in_bounds) }
