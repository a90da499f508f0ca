-- What the 31 bits of a header below its parity leave, divided by the generator: nothing where the check is right.
-- Assumes nothing.
use Rattle.std.specs.Prelude.{ℕ}
use Rattle.header.specs.Check.{remainder}

unfoldable pub left : ℕ → ℕ
left = remainder 21
