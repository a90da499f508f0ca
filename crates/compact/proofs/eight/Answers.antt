-- `compact::eight` meets its contract. Assumes nothing.
use Rattle.std.proofs.Common.{rules, ◌≡◌, ℕ, ◌<◌, length, get_or, ap, ◌∙◌, arith, w64}
use Rattle.std.specs.Int.{from_be_bytes}
use Rattle.codes.specs.Pack.{low}
use Rattle.codes.specs.Steps.EightBytes.{four_at, eight_at}
use Rattle.codes.proofs.PassedWords.{eight_whole}
use Rattle.compact.proofs.eight.Goals as goal

pub returns : goal.returns
unfolding eight_at four_at
returns c =
    let word = c.args.word.now in
    let bytes : (i : ℕ) → get_or word i 0 < 256 = λ i. search rules in
    let size : length word ≡ 8 = search rules in
    ap (low 64) (c.from_be_bytes.ensures ∙ (let e : from_be_bytes w64 word ≡ eight_at word 0 = omega arith in e)) ∙ eight_whole word size bytes
