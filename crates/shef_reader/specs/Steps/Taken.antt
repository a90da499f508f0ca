-- A code as the reader takes it out of six bits, and codes passed.
-- Assumes nothing.
use Rattle.std.specs.Prelude.{◌≡◌, ℕ, ◌+◌, ◌-◌, ◌*◌, ◌/◌, ◌%◌, ◌^◌, ◌<◌, cond, List, [], ◌∷◌, length, ◌==◌, slice_index}
use Rattle.codes.specs.Chain.{Entry, In, Begins}
use Rattle.codes.specs.Pack.{low}
use Rattle.shef.specs.Table.{table}

-- the code of the text begins the six bits. Their first bit tells how many it has
pub record Says (six : ℕ) (text : List ℕ) : Type 0 where
  pub entry : Entry
  pub legal : In entry table
  pub begins : Begins entry.code (low 6 six)
  pub width : length entry.code ≡ 5 + six / 32
  pub says : entry.says ≡ text

-- what stands behind the first character: LF behind the CR of a line end
abbrev pub behind : ℕ → List ℕ
behind six = cond (six == 58) (10 ∷ []) []

-- how many characters the code says that begins six bits
abbrev pub characters_in : ℕ → ℕ
characters_in six = cond (six == 58) 2 1

-- the first character of each code, by the six bits that it begins; six ones begin none
abbrev pub Characters : List ℕ → Type 0
Characters row = (six : ℕ) → six < 63 → Says six (slice_index row six ∷ behind six)

-- ten codes from the top of a word on have five bits each, if they are no more: the first bit of each is 0
abbrev pub Fives : ℕ → Type 0
Fives top = (k : ℕ) → k < 10 → top / 2 ^ (63 - 5 * k) % 2 ≡ 0
