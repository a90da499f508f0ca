-- How many times the bits before the fill of one maker's data another's can have at most, for the same text. In Pseudo Binary sixteen spaces or slashes go
-- under one indicator, or each under one of its own (001, 4.2.2.2); in Full ASCII a line end is one code of nine bits or two (4.5); in Numeric, SHEF and Open
-- there is one way.
-- Assumes nothing.
use Rattle.std.specs.Prelude.{ℕ}
use Rattle.header.specs.declared.Format.{Format}
use Rattle.header.specs.declared.Format.TheVariants.{Open, PseudoBinary, Numeric, Shef, FullAscii}

unfoldable pub times_at_most : Format → ℕ
times_at_most Open = 1
times_at_most PseudoBinary = 16
times_at_most Numeric = 1
times_at_most Shef = 1
times_at_most FullAscii = 2
