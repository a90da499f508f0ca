-- How many bits the code of a character has.
-- Assumes nothing.
use mathlib.Core.Path.{◌≡◌, ap}
use mathlib.Core.Bool.{Bool, true, false, cond, ◌&&◌}
use Prim.Native.Nat.{ℕ}
use lib.Dec.{eqb}
use lib.ListN.{length}
use Rattle.full_ascii.specs.Table.{LF, CR}
use Rattle.full_ascii.specs.Writer.{own}
use Rattle.full_ascii_writer.specs.Steps.Sending.{bits_for}

-- none where the two are a line end, and else those of its own code
pub bits_none : (before c : ℕ) → (eqb before CR && eqb c LF) ≡ true → bits_for before c ≡ 0
unfolding bits_for
bits_none before c e = ap (λ (b : Bool). cond b 0 (length (own c).code)) e

pub bits-some : (before c : ℕ) → (eqb before CR && eqb c LF) ≡ false → bits_for before c ≡ length (own c).code
unfolding bits_for
bits-some before c e = ap (λ (b : Bool). cond b 0 (length (own c).code)) e
