-- Both sums stay below 65,521.
use Rattle.std.proofs.Common.{◌<◌}
use Rattle.vectors.proofs.adler32.Given as goal

abbrev pub invariant-loop-byte : goal.invariant-loop-byte
invariant-loop-byte l = (l.low < 65521) × (l.high < 65521)
