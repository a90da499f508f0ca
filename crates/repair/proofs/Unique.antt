-- The promise of a repair leaves one answer: two masks of at most two bits that leave the same are the same.
-- Assumes nothing.
use mathlib.Core.Path.{◌≡◌, refl, sym, ap, ◌∙◌}
use Prim.Native.Nat.{ℕ}
use native.Mathlib.Omega.{arith}
use lib.Bits.{bit_xor, xor_lt, xor_self}
use Rattle.bits.proofs.Ones.{ones-xor}
use Rattle.bits.proofs.Xor.{xor-zero}
use Rattle.distance.specs.Steps.Left.{left}
use Rattle.distance.proofs.Apart.{four-leave}
use Rattle.distance.proofs.Left.{left-sum}
use Rattle.std.specs.Prelude.{Option, Some, None}
use Rattle.repair.specs.Steps.Repair.{Accounts, Repairs}

one-mask : (difference m n : ℕ) → Accounts difference m → Accounts difference n → m ≡ n
one-mask difference m n p q =
    xor-zero m n
    (four-leave (bit_xor m n) (xor_lt 31 m n p.bits q.bits) (omega (arith, ones-xor 31 m n, p.few, q.few))
    (left-sum m n ∙ ap (bit_xor (left m)) (q.leaves ∙ sym p.leaves) ∙ xor_self (left m)))

pub one-repair : (difference : ℕ) (a b : Option ℕ) → Repairs difference a → Repairs difference b → a ≡ b
one-repair difference (Some m) (Some n) p q = ap Some (one-mask difference m n p q)
one-repair difference (Some m) None p q = absurd (q m p)
one-repair difference None (Some n) p q = absurd (p n q)
one-repair difference None None p q = refl
