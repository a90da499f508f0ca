-- How many indicators, values and codes n data bytes can have at most: their bits over those of the format's shortest code. It has six in Pseudo Binary
-- and in Full ASCII, four in Numeric and five in SHEF (001, 4.2, 4.5, 4.3 and 4.4); Open has no codes.
-- Assumes nothing.
use Rattle.std.specs.Prelude.{ℕ, ◌*◌, ◌/◌}
use Rattle.header.specs.declared.Format.{Format}
use Rattle.header.specs.declared.Format.TheVariants.{Open, PseudoBinary, Numeric, Shef, FullAscii}

unfoldable pub ceiling : Format → ℕ → ℕ
ceiling Open n = 0
ceiling PseudoBinary n = 4 * n / 3
ceiling Numeric n = 2 * n
ceiling Shef n = 8 * n / 5
ceiling FullAscii n = 4 * n / 3
