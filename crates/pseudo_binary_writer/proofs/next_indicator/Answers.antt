-- `pseudo_binary_writer::next_indicator` meets its contract. Assumes nothing.
use mathlib.Core.Path.{◌≡◌}
use mathlib.Core.Bool.{true}
use native.Mathlib.Omega.{arith}
use lib.ListN.{get_or, drop}
use borrow.Author.Tests.{eq-eqb}
use Rattle.pseudo_binary.specs.Table.{SPACE, SLASH, values, spaces, slashes, is_of}
use Rattle.pseudo_binary_writer.proofs.Extents.{else-value}
use Rattle.pseudo_binary_writer.proofs.Opening.{space-first, slash-first, value-first, run-some}
use Rattle.pseudo_binary_writer.proofs.Ranges.{spaces-between, slashes-between}
use Rattle.pseudo_binary.proofs.Writer.{run-le}
use Rattle.pseudo_binary_writer.proofs.next_indicator.Goals.{In_default}
use Rattle.pseudo_binary_writer.proofs.next_indicator.Goals as goal

pub run_of-count-requires : goal.run_of-count-requires
run_of-count-requires c = (omega arith, (spaces, spaces-between))

pub overflow_sub-result : goal.overflow_sub-result
unfolding is_of
overflow_sub-result c =
    run-some c.args.text.now c.args.i c.requires.1 spaces 15 c.run_of-count.result
    (eq-eqb (get_or c.args.text.now c.args.i 0) SPACE c.in-32.is) (c.run_of-count.ensures spaces spaces-between)

pub run_of-count-requires-in-47 : goal.run_of-count-requires-in-47
run_of-count-requires-in-47 c = (omega arith, (slashes, slashes-between))

pub overflow_sub-result-in-47 : goal.overflow_sub-result-in-47
unfolding is_of
overflow_sub-result-in-47 c =
    run-some c.args.text.now c.args.i c.requires.1 slashes 15 c.run_of-count-in-47.result
    (eq-eqb (get_or c.args.text.now c.args.i 0) SLASH c.in-47.is) (c.run_of-count-in-47.ensures slashes slashes-between)

pub overflow_add-result : goal.overflow_add-result
overflow_add-result c =
    omega (arith, c.run_of-count-in-47.ensures slashes slashes-between, run-le slashes 16 (drop c.args.i c.args.text.now))

-- the last arm is that of the values
is-value : (c : In_default) → is_of values (get_or c.args.text.now c.args.i 0) ≡ true
is-value c =
    else-value (get_or c.args.text.now c.args.i 0) (c.requires.0 c.args.i c.requires.1) (omega arith) (omega arith)

pub overflow_sub-result-in_default : goal.overflow_sub-result-in_default
overflow_sub-result-in_default c =
    run-some c.args.text.now c.args.i c.requires.1 values 127 c.values_at-values.result (is-value (goal.at.overflow_sub-result-in_default c).In_default)
    c.values_at-values.ensures

pub overflow_add-result-in_default : goal.overflow_add-result-in_default
overflow_add-result-in_default c =
    omega (arith, c.values_at-values.ensures, run-le values 128 (drop c.args.i c.args.text.now))

pub returns-in-32 : goal.returns-in-32
returns-in-32 c =
    space-first c.args.text.now c.args.i c.requires.1 c.run_of-count.result c.in-32.is (c.run_of-count.ensures spaces spaces-between)

pub returns-in-47 : goal.returns-in-47
returns-in-47 c =
    slash-first c.args.text.now c.args.i c.requires.1 c.run_of-count-in-47.result c.in-47.is
    (c.run_of-count-in-47.ensures slashes slashes-between)

pub returns-in_default : goal.returns-in_default
returns-in_default c =
    value-first c.args.text.now c.args.i c.requires.1 c.values_at-values.result (is-value (goal.at.returns-in_default c).In_default) c.values_at-values.ensures
