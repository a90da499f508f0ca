-- `header::Header::from_bits` meets its contract.
-- Assumes nothing.
use mathlib.Core.Path.{sym}
use Prim.Native.Nat.{◌%◌}
use native.Mathlib.Nat.{div-one}
use lib.Dec.{eqb}
use Rattle.header.specs.Flag.{flag_bits, spare_in, sync_in, extended_type_in, message_type_in}
use Rattle.header.specs.Valid.{flag_in, length_in}
use Rattle.header.specs.Fields.{fields_in}
use Rattle.header.proofs.Header.from_bits.Goals as goal

pub returns : goal.returns
unfolding fields_in flag_in length_in flag_bits spare_in sync_in extended_type_in message_type_in
returns c =
    let h = c.args.word in
    λ i.
    record {
      message_type = message_type_in (flag_in h);
      extended_type = extended_type_in (flag_in h);
      sync = eqb (sync_in (flag_in h)) 1;
      spare = eqb (sym (div-one (flag_in h)) i % 2) 1;
      length = length_in h;
    }
