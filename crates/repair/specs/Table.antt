-- The repair rule (RULES, Packet): a table of all differences between the check bits received and those worked out. An entry names the bits to turn over
-- among the 31 below the parity, none, one or two; or it says that there are none to be had.
-- Assumes nothing.
use Rattle.std.specs.Prelude.{Bool, cond, not, List, [], ◌∷◌, map, ◌≡◌, ℕ, zero, suc, ◌+◌, ◌*◌, ◌^◌, eqb}
use Rattle.std.specs.Int.Bits.{bit_xor}
use Rattle.bits.specs.First.{first}
use Rattle.bits.specs.Numbers.{numbers}
use Rattle.bits.specs.Turnings.{turnings, mask_of}
use Rattle.bits.specs.Word.{bit}
use Rattle.distance.specs.Steps.Left.{left}

-- a way to turn over bits, behind the difference that they leave
abbrev pub Leaving : Type 0
Leaving = ℕ × List ℕ

-- the ways to turn over none, one or two of the 31 bits
unfoldable pub leavings : List Leaving
leavings = map (λ (places : List ℕ). (left (mask_of places), places)) (turnings 2 31)

-- an entry: two places, the higher first, by two decimal digits each; 31, which is none of the 31 bits, stands for no bit
unfoldable pub entry_for : List ℕ → ℕ
entry_for [] = 3131
entry_for (place ∷ []) = 3100 + place
entry_for (higher ∷ lower ∷ more) = higher * 100 + lower

-- none to be had
unfoldable pub nothing : ℕ
nothing = 9999

unfoldable pub entry_of : List Leaving → ℕ
entry_of [] = nothing
entry_of (way ∷ more) = entry_for way.1

-- of a difference: that of the first way that leaves it
unfoldable pub entry_in : List Leaving → ℕ → ℕ
entry_in ways difference = entry_of (first (λ way. eqb way.0 difference) ways)

-- of all differences of ten bits
unfoldable pub entries_in : List Leaving → List ℕ
entries_in ways = map (entry_in ways) (numbers 0 1024)

unfoldable pub entries : List ℕ
entries = entries_in leavings

-- how many entries pass a test
unfoldable pub how_many : (ℕ → Bool) → List ℕ → ℕ
how_many test [] = 0
how_many test (entry ∷ more) = cond (test entry) 1 0 + how_many test more

-- a table has the rule: each of its entries is right, 497 name bits to turn over, and 527 have none
pub record HasRule (table : List ℕ) : Type 0 where
  pub each : table ≡ entries
  pub naming-bits : how_many (λ entry. not (eqb entry nothing)) table ≡ 497
  pub naming-none : how_many (λ entry. eqb entry nothing) table ≡ 527

-- ---- the difference by hand: the exclusive or of the numbers of all bits that are 1, where the number of a bit is what it leaves alone

unfoldable pub number_of : ℕ → ℕ
number_of place = left (2 ^ place)

-- of the bits below a place
unfoldable pub by_hand : ℕ → ℕ → ℕ
by_hand zero h = 0
by_hand (suc place) h = bit_xor (bit place h * number_of place) (by_hand place h)
