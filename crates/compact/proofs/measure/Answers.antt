-- `compact::measure` meets its contract. Assumes nothing.
use Rattle.std.proofs.Common.{◌≡◌, ◌+◌, ◌-◌, ◌*◌, ◌%◌, length, drop, sym, ap, ◌∙◌, subst, arith}
use lib.ListN.{length-drop}
use Rattle.bits.specs.Row.{bits}
use Rattle.codes.specs.Chain.{single}
use Rattle.codes.specs.Pack.{low}
use Rattle.codes.specs.Steps.Measure.{Measures}
use Rattle.codes.specs.Steps.Passed.{CountedSoFar}
use Rattle.codes.proofs.BitsInBytes.{length-bits}
use Rattle.codes.proofs.LowBits.{length-low}
use Rattle.codes.proofs.OneReading.{Halts}
use Rattle.codes.proofs.ReadSoFar.{counting-none, counting-bits, counting-stuck, front_fits}
use Rattle.codes.proofs.PassedWords.{ahead_left, by_byte, last-whole, word_more}
use Rattle.compact.proofs.measure.Goals as goal

pub loop-word-init : goal.loop-word-init
loop-word-init g c = record { short = omega arith; within = omega arith; shorter = omega arith; brief = omega arith; passed = counting-none _ _ }

pub overflow_add-result-then-skimmed-gt24 : goal.overflow_add-result-then-skimmed-gt24
overflow_add-result-then-skimmed-gt24 g c =
    let laws = g.T.Table.laws.laws in
    omega (
      arith,
      counting-bits c.loop-word.invariant.passed laws,
      counting-bits c.skim-skimmed.ensures.passed laws,
      length-bits c.args.sent.now,
      length-low (64 - c.loop-word.skip) c.eight.result,
      c.requires,
    )

pub overflow_add-codes : goal.overflow_add-codes
overflow_add-codes g c =
    let laws = g.T.Table.laws.laws in
    omega (
      arith,
      counting-bits c.loop-word.invariant.passed laws,
      counting-bits c.skim-skimmed.ensures.passed laws,
      length-bits c.args.sent.now,
      length-low (64 - c.loop-word.skip) c.eight.result,
      c.requires,
    )

pub returns-then-skimmed-gt24 : goal.returns-then-skimmed-gt24
returns-then-skimmed-gt24 g c =
    let scheme = single g.T.Table.table 7 in
    let i = c.loop-word.invariant in
    let rest = c.loop-word.rest.now in
    let r = c.skim-skimmed.result in
    let t = c.skim-skimmed.ensures in
    let word = c.in-Some.ensures.cases in
    let size : length (drop (64 - r.left) (bits rest)) + (64 - r.left) ≡ length rest * 8 =
    omega (arith, length-drop (64 - r.left) (bits rest), length-bits rest, word.2, t.brief) in
    counting-stuck (word_more rest c.in-Some.word.now c.eight.result word.0 c.eight.ensures (omega (arith, i.short)) (omega (arith, t.brief)) i.passed t.passed)
    _ _ (omega (arith, size, length-bits c.args.sent.now, i.shorter)) (omega arith)
    (subst (Halts scheme 0) (ahead_left rest c.in-Some.word.now c.eight.result word.0 c.eight.ensures r.left (omega (arith, t.brief)))
    (t.stuck c.if-skimmed-gt24.true (bits (drop 8 rest))))
    (λ f. let no : ⊥ = omega (arith, f.few, size, word.2, c.if-skimmed-gt24.true) in no)

pub loop-word-preserved : goal.loop-word-preserved
loop-word-preserved g c =
    let i = c.loop-word.invariant in
    let rest = c.loop-word.rest.now in
    let r = c.skim-skimmed.result in
    let t = c.skim-skimmed.ensures in
    let word = c.in-Some.ensures.cases in
    let moved = c.split_at.ensures.back_len in
    record {
      short = omega arith;
      within = omega (arith, moved, word.2, t.brief, c.if-skimmed-gt24.false);
      shorter = omega (arith, moved, i.shorter);
      brief = omega (arith, moved, i.brief, t.brief, i.short);
      passed = subst (λ row. CountedSoFar (single g.T.Table.table 7) (bits c.args.sent.now) row (c.loop-word.n + r.count) (c.loop-word.codes + r.codes))
          (sym (by_byte rest (64 - r.left)) ∙ ap (λ s. drop ((64 - r.left) % 8) (bits s)) (sym c.split_at.ensures.back))
          (word_more rest c.in-Some.word.now c.eight.result word.0 c.eight.ensures (omega (arith, i.short)) (omega (arith, t.brief)) i.passed t.passed);
    }

pub with_front-requires : goal.with_front-requires
with_front-requires g c =
    let i = c.loop-word.invariant in
    let b = c.last_bits-last.result in
    let size = length-low b.have b.held in
    front_fits (single g.T.Table.table 7) g.T.Table.laws.laws (λ m. g.T.Table.laws.briefs) (low b.have b.held) _ _ _ _ c.measure_last-told.ensures
    (omega (arith, size, i.brief, c.last_bits-last.ensures.size, c.requires))
    (omega (arith, size, counting-bits i.passed g.T.Table.laws.laws, length-bits c.args.sent.now, ap length c.last_bits-last.ensures.same, c.requires))
    (omega (arith, size, i.shorter, c.last_bits-last.ensures.size, c.requires))

pub returns : goal.returns
returns g c =
    let i = c.loop-word.invariant in
    let b = c.last_bits-last.result in
    subst (Measures (single g.T.Table.table 7) (bits c.args.sent.now)) (sym c.with_front.ensures)
    (last-whole _
    (subst (λ row. CountedSoFar (single g.T.Table.table 7) (bits c.args.sent.now) row c.loop-word.n c.loop-word.codes)
    (sym c.last_bits-last.ensures.same) i.passed)
    (omega arith) (omega arith) (omega (arith, length-bits c.args.sent.now, length-low b.have b.held, c.last_bits-last.ensures.size, i.shorter)) _
    c.measure_last-told.ensures)
