-- Which header bits were mended (RULES, Refusals): what the mask of an accepted packet says, whatever number was named, read into a buffer or examined.
-- Assumes nothing.
use Rattle.std.specs.Prelude.{List, ◌≡◌, ℕ}
use Rattle.std.specs.Int.Bits.{bit_xor}
use Rattle.std.specs.Int.Count.{ones_in}
use Rattle.header.specs.Valid.{flag_in, length_in, check_in}
use Rattle.terms.specs.declared.Terms.{Terms}
use Rattle.examine.specs.declared.Reading.{Reading}
use Rattle.examine.specs.Examine.{Allowed, Accepts}
use Rattle.packet.specs.Packet.{received}

pub record WhichBits (terms : Terms) : Type 0 where
  -- the count is the number of ones in it;
  pub ones-counted : (packet : List ℕ) (reading : Reading) (text : List ℕ) → Accepts terms packet reading text → reading.mended ≡ ones_in 32 reading.mask
  -- it and the received word give back the valid header, with which the packet is allowed;
  pub header-back : (packet : List ℕ) (reading : Reading) (text : List ℕ) → Accepts terms packet reading text
      → Allowed terms packet reading.format (bit_xor (received packet) reading.mask) text
  -- and it lies in the order of the header's own bits, the flag highest: each part of it has the bits in which that part of the two headers differs
  pub in_order : (packet : List ℕ) (reading : Reading) (text : List ℕ) (accepts : Accepts terms packet reading text)
      → (flag_in reading.mask ≡ bit_xor (flag_in (received packet)) (flag_in accepts.header))
      × (length_in reading.mask ≡ bit_xor (length_in (received packet)) (length_in accepts.header))
      × (check_in reading.mask ≡ bit_xor (check_in (received packet)) (check_in accepts.header))
