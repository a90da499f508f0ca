-- Four bytes out of a number, stored one by one.
-- Assumes nothing.
use mathlib.Core.Path.{◌≡◌, ap, ◌∙◌}
use mathlib.Core.List.{List}
use Prim.Native.Nat.{ℕ, ◌+◌, ◌/◌, ◌%◌, ◌^◌}
use native.Mathlib.Omega.{arith}
use lib.ListN.{set}
use Rattle.codes.specs.Steps.EightBytes.{spilled}
use Rattle.codes.proofs.EightBytes.{spill-four}

pub spill-bytes : (out : List ℕ) (n held have shift a b c d i j k : ℕ) → shift + 32 ≡ have → i ≡ n + 1 → j ≡ n + 2 → k ≡ n + 3
    → a ≡ held / 2 ^ shift / 16777216 % 256 → b ≡ held / 2 ^ shift / 65536 % 256 → c ≡ held / 2 ^ shift / 256 % 256 → d ≡ held / 2 ^ shift % 256
    → set (set (set (set out n a) i b) j c) k d ≡ spilled 4 out n held have
spill-bytes out n held have shift a b c d i j k e x y z p q r s =
    ap (set (set (set (set out n a) i b) j c) k) s ∙ spill-four out n held have shift a b c i j k e (omega arith) (omega arith) (omega arith) p q r
