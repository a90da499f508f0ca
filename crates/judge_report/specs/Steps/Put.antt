-- A packet's line put into a buffer.
-- Assumes nothing.
use Rattle.std.specs.Prelude.{List, ℕ}
use Rattle.codes.specs.Steps.Laid.{Fronted}
use Rattle.judge_report.specs.Report.{Prints}

-- the packet's line stands at the front of the buffer, r bytes, and nothing else changed
pub record PutsLine (packet entry exit : List ℕ) (r : ℕ) : Type 0 where
  pub line : List ℕ
  pub prints : Prints packet line
  pub front : Fronted line entry exit r
