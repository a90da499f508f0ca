-- All that was promised, under terms: the three demands, and what stands beside them; demands 2 and 3 where the number of bits to mend may be named.
-- Assumes nothing.
use Rattle.terms.specs.declared.Terms.{Terms}
use Rattle.terms.specs.Terms.{MayMend}
use Rattle.demands.specs.Demand1.{Demand1, Conditions}
use Rattle.demands.specs.Demand2.{Demand2}
use Rattle.demands.specs.Demand3.{Demand3}
use Rattle.demands.specs.HowManyCodes.{HowManyCodes}
use Rattle.demands.specs.Judging.{Judging}
use Rattle.demands.specs.NoShorter.{NoShorter, Waste}
use Rattle.demands.specs.OneAnswer.{OneAnswer, OneBuilding, Buildings, Agreement, NothingAfter}
use Rattle.demands.specs.WhichBits.{WhichBits}

pub record Promised (terms : Terms) : Type 0 where
  pub demand-1 : Demand1 terms
  pub conditions : Conditions terms
  pub demand-2 : MayMend terms.mend → Demand2 terms
  pub demand-3 : MayMend terms.mend → Demand3 terms
  pub one_answer : OneAnswer terms
  pub one-building : OneBuilding
  pub buildings : Buildings
  pub agreement : Agreement terms
  pub nothing-after : NothingAfter terms
  pub which-bits : WhichBits terms
  pub how-many-codes : HowManyCodes terms
  pub no-shorter : NoShorter terms
  pub waste : Waste
  pub judging : Judging terms
