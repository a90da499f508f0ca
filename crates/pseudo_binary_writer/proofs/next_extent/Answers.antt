-- `pseudo_binary_writer::next_extent` meets its contract. Assumes nothing.
use native.Mathlib.Omega.{arith}
use lib.ListN.{drop}
use Rattle.pseudo_binary.specs.Table.{values}
use Rattle.pseudo_binary_writer.proofs.Extents.{low-kind, repeat-extent, values-extent}
use Rattle.pseudo_binary.proofs.Writer.{run-le}
use Rattle.pseudo_binary_writer.proofs.next_extent.Goals as goal

pub run_of-requires : goal.run_of-requires
run_of-requires c =
    (omega arith, low-kind _ (c.requires.0 c.args.i c.requires.1) c.if-c-lt63.true)

pub returns-then-c-lt63 : goal.returns-then-c-lt63
returns-then-c-lt63 c =
    repeat-extent c.args.text.now c.args.i c.requires.1 (c.requires.0 c.args.i c.requires.1) c.run_of.result c.if-c-lt63.true c.run_of.ensures

pub overflow_mul-result : goal.overflow_mul-result
overflow_mul-result c =
    omega (arith, c.values_at-values.ensures, run-le values 128 (drop c.args.i c.args.text.now))

pub overflow_add-result : goal.overflow_add-result
overflow_add-result c =
    omega (arith, c.values_at-values.ensures, run-le values 128 (drop c.args.i c.args.text.now))

pub returns : goal.returns
returns c =
    values-extent c.args.text.now c.args.i c.requires.1 (c.requires.0 c.args.i c.requires.1) c.values_at-values.result c.if-c-lt63.false c.values_at-values.ensures
