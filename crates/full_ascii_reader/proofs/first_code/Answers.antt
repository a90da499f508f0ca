-- `full_ascii_reader::first_code` meets its contract. Assumes nothing.
use mathlib.Core.Path.{subst⁻¹}
use native.Mathlib.Omega.{arith}
use Rattle.codes.specs.Steps.Taken.{FirstCode}
use Rattle.full_ascii.specs.Table.{table}
use Rattle.full_ascii_reader.proofs.Nine.{takes-six, takes-seven, takes-tab, takes-return, takes-feed, takes-pair}
use Rattle.full_ascii_reader.proofs.first_code.Goals as goal

pub returns-then-w-lt256 : goal.returns-then-w-lt256
returns-then-w-lt256 c = subst⁻¹ (FirstCode table c.args.w) c.one_character.ensures (takes-six c.args.w _ c.if-w-lt256.true (omega arith))

pub returns-then-w-lt-HT : goal.returns-then-w-lt-HT
returns-then-w-lt-HT c = subst⁻¹ (FirstCode table c.args.w) c.one_character-then-w-lt-HT.ensures (takes-seven c.args.w (omega arith) (omega arith))

pub returns-in-508 : goal.returns-in-508
returns-in-508 c = subst⁻¹ (FirstCode table c.args.w) c.one_character-in-508.ensures (takes-tab c.args.w c.in-508.is)

pub returns-in-509 : goal.returns-in-509
returns-in-509 c = subst⁻¹ (FirstCode table c.args.w) c.one_character-in-509.ensures (takes-return c.args.w c.in-509.is)

pub returns-in-510 : goal.returns-in-510
returns-in-510 c = subst⁻¹ (FirstCode table c.args.w) c.one_character-in-510.ensures (takes-feed c.args.w c.in-510.is)

pub returns-in_default : goal.returns-in_default
returns-in_default c = takes-pair c.args.w (omega arith) (omega arith) (omega arith)
