-- What was promised holds at either rate and whatever number of bits is named, and so where none is named.
-- Assumes nothing.
use mathlib.Core.Bool.{Bool}
use Prim.Native.Nat.{ℕ}
use Rattle.terms.specs.declared.Terms.{Terms}
use Rattle.terms.specs.Terms.{OnePacket, naming, usual}
use Rattle.terms.proofs.Usual.{most-few}
use Rattle.demands.specs.Promised.{Promised}
use Rattle.demands.proofs.Demand1 as first
use Rattle.demands.proofs.Demand2 as second
use Rattle.demands.proofs.Demand3 as third
use Rattle.demands.proofs.HowManyCodes as counted
use Rattle.demands.proofs.Judging as judged
use Rattle.demands.proofs.NoShorter as fewest
use Rattle.demands.proofs.OneAnswer as beside
use Rattle.demands.proofs.WhichBits as which

pub kept : (terms : Terms) → OnePacket terms.most → Promised terms
kept terms bytes = record {
  demand-1 = first.demand-1 terms bytes;
  conditions = first.conditions terms;
  demand-2 = λ bits. second.demand-2 terms (record { bits = bits; bytes = bytes });
  demand-3 = λ bits. third.demand-3 terms (record { bits = bits; bytes = bytes });
  one_answer = beside.one_answer terms bytes;
  one-building = beside.one-building;
  buildings = beside.buildings;
  agreement = beside.agreement terms bytes;
  nothing-after = beside.nothing-after terms bytes;
  which-bits = which.which-bits terms;
  how-many-codes = counted.how-many-codes terms bytes;
  no-shorter = fewest.no-shorter terms;
  waste = fewest.waste;
  judging = judged.judging terms bytes;
}

pub kept-naming : (mend : ℕ) (rate-1200 : Bool) → Promised (naming mend rate-1200)
kept-naming mend rate-1200 = kept (naming mend rate-1200) (most-few rate-1200)

pub kept-usually : (rate-1200 : Bool) → Promised (usual rate-1200)
kept-usually = kept-naming 1
