-- The data of Compact Numeric ASCII (001, 4.3): base characters that are sent for a text, each in four bits.
-- Assumes nothing.
use Rattle.std.specs.Prelude.{List, ℕ}
use Rattle.codes.specs.Chain as chain
use Rattle.numeric.specs.Table.{scheme}
use Rattle.numeric.specs.Translation.{Translates}

-- what a maker may build of the text
pub record Built (text carried : List ℕ) : Type 0 where
  pub base : List ℕ
  pub translates : Translates base text
  pub codes : chain.Built scheme base carried
