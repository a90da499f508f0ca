-- `header::multiple_for` meets its contract: what is worked out of each four bits passes one computed test.
-- Assumes nothing.
use mathlib.Core.Bool.{Bool, ◌&&◌}
use Prim.Native.Nat.{ℕ, ◌*◌, ◌/◌, ◌%◌, ◌^◌, ◌<◌}
use lib.Bits.{bit_xor}
use lib.Dec.{T, eqb, eqb→eq}
use Rattle.bits.proofs.All.{all, all-at}
use Rattle.bits.proofs.Said.{and_left, and_right}
use Rattle.header.specs.Check.{generator, remainder}
use Rattle.header.specs.Steps.Differences.{Multiple}
use Rattle.header.proofs.multiple_for.Goals as goal

-- the coefficients of the quotient, and its product with the generator
quotient : ℕ → ℕ
quotient top = bit_xor (bit_xor top (top / 2)) (top / 8)

product : ℕ → ℕ
product q = bit_xor (bit_xor (q / 4 % 2 * (generator * 4)) (q / 8 % 2 * (generator * 8))) (bit_xor (q % 2 * generator) (q / 2 % 2 * (generator * 2)))

-- divided, it leaves nothing, and it has these coefficients from x^10 up
right : ℕ → Bool
right top = eqb (product (quotient top) / 2 ^ 10) top && eqb (remainder 4 (product (quotient top))) 0

all_right : T (all right 16)
unfolding all right product quotient remainder generator
all_right = tt

told : (top : ℕ) → top < 16 → Multiple top (product (quotient top))
unfolding right
told top h =
    let m = product (quotient top) in
    let t : T (right top) = all-at right 16 all_right top h in
    record {
      upper = eqb→eq (m / 2 ^ 10) top (and_left (eqb (m / 2 ^ 10) top) (eqb (remainder 4 m) 0) t);
      divided = eqb→eq (remainder 4 m) 0 (and_right (eqb (m / 2 ^ 10) top) (eqb (remainder 4 m) 0) t);
    }

pub returns : goal.returns
unfolding product quotient generator
returns c = told c.args.top c.requires
