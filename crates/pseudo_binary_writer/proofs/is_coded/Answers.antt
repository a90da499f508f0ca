-- `pseudo_binary_writer::is_coded` meets its contract. Assumes nothing.
use native.Mathlib.Omega.{arith}
use Rattle.pseudo_binary_writer.proofs.Ranges.{space-coded, slash-coded, value-coded, low-uncoded, high-uncoded}
use Rattle.pseudo_binary_writer.proofs.is_coded.Goals as goal

pub returns-in-32 : goal.returns-in-32
returns-in-32 c = space-coded c.args.c c.in-32.is

pub returns-in-47 : goal.returns-in-47
returns-in-47 c = slash-coded c.args.c c.in-47.is

pub returns-in-63-to-127 : goal.returns-in-63-to-127
returns-in-63-to-127 c = value-coded c.args.c (omega arith) (omega arith)

pub returns-in_default : goal.returns-in_default
returns-in_default c =
    low-uncoded c.args.c (omega arith) (omega arith) (omega arith)

pub returns-in_default-2 : goal.returns-in_default-2
returns-in_default-2 c = high-uncoded c.args.c (omega arith)
