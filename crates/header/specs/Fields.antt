-- The fields of a header, and the header of fields.
-- Assumes nothing.
use Rattle.std.specs.Prelude.{Bool, true, false, List, [], ◌∷◌, ℕ, ◌+◌, ◌*◌, ◌/◌, ◌%◌, ◌^◌, ◌<◌, eqb}
use Rattle.header.specs.declared.Header.{Header}
use Rattle.header.specs.Check.{check_of}
use Rattle.header.specs.Flag.{spare_in, sync_in, extended_type_in, message_type_in, parity_for}
use Rattle.header.specs.Valid.{flag_in, length_in}

-- ---- from 32 bits

unfoldable pub fields_in : ℕ → Header
fields_in h =
    record {
      message_type = message_type_in (flag_in h);
      extended_type = extended_type_in (flag_in h);
      sync = eqb (sync_in (flag_in h)) 1;
      spare = eqb (spare_in (flag_in h)) 1;
      length = length_in h;
    }

-- ---- from fields

abbrev pub one_if : Bool → ℕ
one_if true = 1
one_if false = 0

-- the seven bits of the flag below its parity
unfoldable pub low_flag : Header → ℕ
low_flag f = f.message_type * 2 ^ 5 + f.extended_type * 2 ^ 2 + one_if f.sync * 2 + one_if f.spare

unfoldable pub header_of : Header → ℕ
header_of f =
    (parity_for (low_flag f) * 2 ^ 7 + low_flag f) * 2 ^ 24 + f.length * 2 ^ 10 + check_of (low_flag f * 2 ^ 14 + f.length)

-- each field in its own number of bits
pub record Fit (f : Header) : Type 0 where
  pub message_type : f.message_type < 2 ^ 2
  pub extended_type : f.extended_type < 2 ^ 3
  pub length : f.length < 2 ^ 14

-- what we send: type 10, binary, and the spare bit 0
abbrev pub sent_fields : ℕ → Bool → ℕ → Header
sent_fields extended sync length = record { message_type = 2; extended_type = extended; sync = sync; spare = false; length = length }

-- ---- four bytes, the first at the top

abbrev pub word_of : ℕ → ℕ → ℕ → ℕ → ℕ
word_of first second third fourth = first * 2 ^ 24 + second * 2 ^ 16 + third * 2 ^ 8 + fourth

unfoldable pub bytes_of : ℕ → List ℕ
bytes_of h = h / 2 ^ 24 % 2 ^ 8 ∷ h / 2 ^ 16 % 2 ^ 8 ∷ h / 2 ^ 8 % 2 ^ 8 ∷ h % 2 ^ 8 ∷ []
