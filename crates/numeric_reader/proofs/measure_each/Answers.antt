-- `numeric_reader::measure_each` meets its contract.
-- Assumes nothing.
use native.Mathlib.Omega.{arith}
use Rattle.numeric_reader.proofs.EntryLaws.{entry-told}
use Rattle.numeric_reader.proofs.Passing.{passes_none, none-passed, next-passed, all-passed}
use Rattle.numeric_reader.proofs.Reading.{measured}
use Rattle.numeric_reader.proofs.measure_each.Goals.{then-before-entry-eq0, else-before-entry-eq0}
use Rattle.numeric_reader.proofs.measure_each.Goals as goal

pub loop-byte-init : goal.loop-byte-init
loop-byte-init c = record { passed = none-passed c.args.s.now; taken = omega arith }

pub pass_pair-p-requires : goal.pass_pair-p-requires
pass_pair-p-requires c =
    let i = c.loop-byte.byte-index in
    (c.loop-byte.invariant.passed.held, entry-told _ (omega (arith, c.type_inv.s i)) c.entry_of-entry.ensures, c.if-before-entry-eq0.false)

pub loop-byte-preserved : goal.loop-byte-preserved
loop-byte-preserved c =
    let i = c.loop-byte.byte-index in
    let passed = c.loop-byte.invariant.passed in
    let told = c.entry_of-entry.ensures in
    let entry = c.entry_of-entry.result in
    elim c.if-before-entry-eq0.branch [
      | then-before-entry-eq0 w ↦ record {
        passed = next-passed passed (omega arith) (omega (arith, c.type_inv.s i)) told
            (passes_none c.loop-byte.before passed.held entry (entry-told _ (omega (arith, c.type_inv.s i)) told) w.if-before-entry-eq0.true)
            (omega (arith, w.saved-is)) w.before-is;
        taken = omega (arith, c.loop-byte.invariant.taken);
      }
      | else-before-entry-eq0 w ↦ record {
        passed = next-passed passed (omega arith) (omega (arith, c.type_inv.s i)) told w.pass_pair-p.ensures w.saved-is w.before-is;
        taken = omega (arith, c.loop-byte.invariant.taken);
      }
    ]

pub returns : goal.returns
returns c =
    let i = c.loop-byte.invariant in
    measured c.args.s.now _ _ (omega (arith, all-passed i.passed (omega arith), i.taken)) (omega (arith, i.taken))
