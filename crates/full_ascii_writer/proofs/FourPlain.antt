-- Whether four characters are plain, and their codes in a row.
-- Assumes nothing.
use mathlib.Core.List.{List}
use Prim.Native.Nat.{ℕ, ◌+◌}
use native.Mathlib.Omega.{arith}
use lib.ListN.{length, get_or}
use Rattle.codes.specs.Steps.Sending.{FourJoined}
use Rattle.codes.specs.declared.Sent.{Sent}
use Rattle.codes.proofs.JoinedCodes.{first-four}
use Rattle.full_ascii.specs.Writer.{AllCoded}
use Rattle.full_ascii_writer.specs.Steps.Sending.{OwnOf, codes_from, FirstCodesOf, FourPlain}
use Rattle.full_ascii_writer.proofs.Sending.{first_plain}

-- the codes of four such characters
module _ (t : List ℕ) (i : ℕ) (all : AllCoded t) (plain : FourPlain t i) where
  pub four-plain : (a b c d r : Sent) → OwnOf (get_or t i 0) a → OwnOf (get_or t (i + 1) 0) b → OwnOf (get_or t (i + 2) 0) c → OwnOf (get_or t (i + 3) 0) d
      → FourJoined a b c d r → FirstCodesOf t i 28 r
  four-plain a b c d r o p q s =
      first-four (codes_from t) (length t) i (i + 1) (i + 2) (i + 3) 7 a b c d r
      (first_plain t i a (omega (arith, plain.there)) o (all i (omega (arith, plain.there))) plain.first)
      (first_plain t (i + 1) b (omega (arith, plain.there)) p (all (i + 1) (omega (arith, plain.there))) plain.second)
      (first_plain t (i + 2) c (omega (arith, plain.there)) q (all (i + 2) (omega (arith, plain.there))) plain.third)
      (first_plain t (i + 3) d (omega (arith, plain.there)) s (all (i + 3) (omega (arith, plain.there))) plain.fourth)
      (omega (arith, o.count)) (omega (arith, p.count)) (omega (arith, q.count))
