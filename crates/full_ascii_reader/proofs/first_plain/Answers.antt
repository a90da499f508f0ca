-- `full_ascii_reader::first_plain` meets its contract. Assumes nothing.
use mathlib.Core.Path.{refl}
use native.Mathlib.Omega.{arith}
use Rattle.full_ascii_reader.proofs.Nine.{takes-lower, takes-upper}
use Rattle.full_ascii_reader.proofs.first_plain.Goals as goal

pub returns-then-bits-lt64 : goal.returns-then-bits-lt64
returns-then-bits-lt64 c = (omega arith, omega arith, refl, λ w e. takes-lower w c.args.bits e (omega arith))

pub returns : goal.returns
returns c = (omega arith, omega arith, refl, λ w e. takes-upper w c.args.bits e (omega arith) (omega arith))
