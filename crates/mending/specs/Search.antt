-- The search for a near valid header, as one would make it by hand (RULES, Packet): all ways to turn over at most the named number of the 32 bits, in the
-- order in which one would write them down, and the first that gives a valid header, check and parity. Mending answers as the search does.
-- Assumes nothing.
use Rattle.std.specs.Prelude.{Bool, ◌&&◌, List, [], ◌∷◌, ◌≡◌, ℕ, ◌%◌, ◌^◌, ◌≤◌, ◌<◌, eqb, length}
use Rattle.std.specs.Int.Bits.{bit_xor}
use Rattle.std.specs.Int.Count.{ones_in}
use Rattle.bits.specs.First.{first}
use Rattle.bits.specs.Turnings.{turnings, mask_of}
use Rattle.header.specs.Check.{check_of}
use Rattle.header.specs.Valid.{flag_in, check_in, information_in}
use Rattle.mending.specs.declared.Mending.{Mending}
use Rattle.mending.specs.declared.Mending.TheVariants.{Mended, Hopeless}
use Rattle.mending.specs.Mends.{MendsWithin}

-- check and parity of 32 bits are right
unfoldable pub is_valid : ℕ → Bool
is_valid h = eqb (check_in h) (check_of (information_in h)) && eqb (ones_in 8 (flag_in h) % 2) 1

-- the word with the bits at these places turned over
unfoldable pub turned_over : List ℕ → ℕ → ℕ
turned_over places word = bit_xor word (mask_of places)

-- what was found: the header, and how many bits were turned over
unfoldable pub answer_of : ℕ → List (List ℕ) → Mending
answer_of received [] = Hopeless
answer_of received (places ∷ more) = Mended (turned_over places received) (length places)

unfoldable pub search : ℕ → ℕ → Mending
search limit received = answer_of received (first (λ places. is_valid (turned_over places received)) (turnings limit 32))

-- for all words of 32 bits, and each number that may be named, what mending promises is what the search finds
abbrev pub AsSearched : Type 0
AsSearched = (limit received : ℕ) → limit ≤ 2 → received < 2 ^ 32 → (answer : Mending) → MendsWithin limit received answer → answer ≡ search limit received
