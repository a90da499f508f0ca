-- `mending::mend` meets its contract: with the bits turned over that account for its difference and the parity set, the word is a valid header, and where
-- that is more bits away than the limit, none is within it.
-- Assumes nothing.
use mathlib.Core.Path.{◌≡◌}
use native.Mathlib.Omega.{arith}
use lib.Bits.{bit_xor}
use lib.Count.{ones}
use Rattle.distance.specs.Distance.{distance}
use Rattle.mending.proofs.Turned.{difference-lt, counted, Turned, turned-valid, none-nearer, repaired, unrepaired}
use Rattle.mending.proofs.mend.Goals.{After-with_parity-header}
use Rattle.mending.proofs.mend.Goals as goal

pub repair-requires : goal.repair-requires
repair-requires c = omega (arith, c.difference.ensures, difference-lt c.args.received)

pub returns-in_default : goal.returns-in_default
returns-in_default c =
    let r = c in
    let entry = r in
    unrepaired entry.args.limit entry.args.received r.difference.result r.repair.result entry.requires r.difference.ensures
    r.repair.ensures c.in_default.is

-- what is done to the word
turned : (c : After-with_parity-header) → Turned c.args.received c.in-Some.mask c.with_parity-header.result
turned c =
    let m = c in
    let r = m in
    record {
      account =
          repaired r.args.received r.difference.result m.in-Some.mask r.repair.result r.difference.ensures
          r.repair.ensures m.in-Some.is;
      bits = omega arith;
      odd = c.with_parity-header.ensures.odd;
      low = c.with_parity-header.ensures.low;
    }

-- and in how many bits
far : (c : After-with_parity-header)
    → ones (bit_xor c.args.received c.with_parity-header.result)
    ≡ distance c.args.received c.with_parity-header.result
far c = counted c.args.received c.with_parity-header.result (omega arith) (omega arith)

pub returns-then-limit-bits : goal.returns-then-limit-bits
returns-then-limit-bits c =
    let entry = c in
    none-nearer (turned (goal.at.returns-then-limit-bits c).After-with_parity-header) entry.args.limit entry.requires (omega (arith, c.if-limit-bits.true, far (goal.at.returns-then-limit-bits c).After-with_parity-header))

pub returns : goal.returns
returns c = (record { valid = turned-valid (turned (goal.at.returns c).After-with_parity-header); near = omega (arith, c.if-limit-bits.false, far (goal.at.returns c).After-with_parity-header) }, far (goal.at.returns c).After-with_parity-header)
