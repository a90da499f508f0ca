-- `bit_buffer::last_bits` meets its contract. The loop's invariant: the bits of the bytes that were taken, then those of the bytes that were not.
-- Assumes nothing.
use mathlib.Core.Path.{◌≡◌}
use mathlib.Core.List.{◌++◌}
use Prim.Native.Nat.{◌*◌, ◌^◌, ◌<◌}
use lib.ListN.{drop}
use Rattle.bits.specs.Row.{bits}
use Rattle.codes.specs.Pack.{low}
use Rattle.bit_buffer.proofs.last_bits.Given as goal

abbrev pub invariant-loop-byte : goal.invariant-loop-byte
invariant-loop-byte l = record {
  same : low (l.byte-index * 8) l.held ++ bits (drop l.byte-index l.rest) ≡ bits l.rest;
  small : l.held < 2 ^ (l.byte-index * 8);
}
