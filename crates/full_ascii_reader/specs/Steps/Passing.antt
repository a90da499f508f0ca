-- The table as it is read, and a word in which each code has six or seven bits.
-- Assumes nothing.
use Rattle.std.specs.Prelude.{ℕ, ◌/◌, ◌%◌, ◌^◌, ◌<◌}
use Rattle.compact.specs.Table.{TableLaws}
use Rattle.full_ascii.specs.Table.{table}
use Rattle.full_ascii.proofs.Table.{laws, mutes, briefs}

-- what reading asks of a table
pub table_laws : TableLaws table
table_laws = record { laws = laws; mutes = mutes; briefs = briefs 0 }

-- no seven ones in a row
abbrev pub Plain : ℕ → Type 0
Plain held = (k : ℕ) → held / 2 ^ k % 128 < 127
