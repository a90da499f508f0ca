-- `compact::put_text` meets its contract. Assumes nothing.
use Rattle.std.proofs.Common.{rules, ◌≡◌, ◌+◌, ◌-◌, length, sym, subst, subst₂, arith}
use Rattle.bits.specs.Row.{bits}
use Rattle.codes.specs.Chain.{single}
use Rattle.codes.specs.Steps.Laid.{Readable}
use Rattle.codes.specs.Steps.Passed.{LaidSoFar}
use Rattle.codes.proofs.ReadSoFar.{laying-none, laying-length, laying-later, laying-last}
use Rattle.codes.proofs.PassedWords.{word_begun, word_laid}
use Rattle.compact.proofs.put_text.Goals as goal

pub loop-word-init : goal.loop-word-init
loop-word-init g c = record { short = omega arith; within = omega arith; room = omega arith; laid = laying-none _ _ _ _ }

pub lay-laid-requires : goal.lay-laid-requires
lay-laid-requires g c =
    let y = c.loop-word.invariant in
    let b = word_begun c.loop-word.rest.now c.in-Some.word.now c.eight.result c.in-Some.ensures.cases.0 c.eight.ensures g.T.Table.laws.laws c.requires y in
    (omega (arith, y.short), omega arith, b.0, b.1)

pub loop-word-preserved : goal.loop-word-preserved
loop-word-preserved g c =
    word_laid c.loop-word.rest.now c.in-Some.word.now c.eight.result c.in-Some.ensures.cases.0 c.eight.ensures g.T.Table.laws.laws c.requires
    c.loop-word.invariant c.lay-laid.result (omega (arith, c.in-Some.ensures.cases.2)) c.lay-laid.ensures c.split_at.ensures.back

pub read_last-requires : goal.read_last-requires
read_last-requires g c =
    let y = c.loop-word.invariant in
    let same : length c.loop-word.out ≡ length c.args.out.now = laying-length y.laid y.room in (
      search rules,
      omega (arith, same, y.room),
      subst₂ (Readable (single g.T.Table.table 7)) (sym c.last_bits-last.ensures.same)
          (let x : 0 + length c.args.out.now - c.loop-word.n ≡ length c.loop-word.out - c.loop-word.n = omega (arith, same) in x)
          (laying-later y.laid g.T.Table.laws.laws c.requires),
    )

pub returns : goal.returns
returns g c =
    let y = c.loop-word.invariant in
    let whole =
    laying-last
    (subst (λ row. LaidSoFar (single g.T.Table.table 7) (bits c.args.sent.now) row c.args.out.now c.loop-word.out 0 c.loop-word.n)
    (sym c.last_bits-last.ensures.same) y.laid) y.room c.read_last.ensures in
    record { text = whole.text; reads = whole.reads; place = omega (arith, whole.place); whole = whole.whole }
