-- The table as it is read.
-- Assumes nothing.
use Rattle.compact.specs.Table.{TableLaws}
use Rattle.shef.specs.Table.{table}
use Rattle.shef.proofs.Table.{laws, mutes, briefs}

-- what reading asks of a table
pub table_laws : TableLaws table
table_laws = record { laws = laws; mutes = mutes; briefs = briefs 0 }
