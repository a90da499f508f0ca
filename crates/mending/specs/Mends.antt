-- A received header is read as the valid header at most the named number of bits away, parity bit included (RULES, Packet).
-- Assumes nothing.
use Rattle.std.specs.Prelude.{◌≡◌, ℕ}
use Rattle.distance.specs.Distance.{distance, ValidWithin}
use Rattle.mending.specs.declared.Mending.{Mending}
use Rattle.mending.specs.declared.Mending.TheVariants.{Mended, Hopeless}

-- the answer is the valid header at most `limit` bits away, with the number of bits in which it differs, or that there is none
abbrev pub MendsWithin : ℕ → ℕ → Mending → Type 0
MendsWithin limit received (Mended header bits) = ValidWithin limit received header × (bits ≡ distance received header)
MendsWithin limit received Hopeless = (header : ℕ) → ValidWithin limit received header → ⊥
