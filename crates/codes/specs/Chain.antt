-- What the compact formats share (001, 4.2 to 4.5; RULES, Formats): codes in a row, then ones for what is unused of the last byte. What a maker may build
-- (RULES, What a promise says), and where data is malformed (RULES, Refusals: 7). What reading gives has a definition of its own, in Reading.
-- Assumes nothing.
use Rattle.std.specs.Prelude.{◌≡◌, ℕ, pred, ◌+◌, ◌≤◌, length, replicate}
use mathlib.Core.List.{List, [], ◌∷◌, ◌++◌, Memᴰ}
use Rattle.bits.specs.Row.{bits}

-- an indicator (001, 4.2.2.1), a value (4.2.1) or a code (4.5): its bits, the text that it says, and how many values it announces
pub record Entry : Type 0 where
  pub code : List ℕ
  pub says : List ℕ
  pub announces : ℕ

-- a compaction scheme has a table for each state, and at its end so many unused bits of the last byte or fewer (001, 4.4 and 4.5: seven; 4.3: none).
-- The state is how many values are still announced
pub record Scheme : Type 0 where
  pub table : ℕ → List Entry
  pub unused : ℕ

-- a scheme in which nothing is announced has one table
abbrev pub single : List Entry → ℕ → Scheme
single entries most = record { table = λ m. entries; unused = most }

-- the entry stands in the table
abbrev pub In : Entry → List Entry → Type 0
In e table = Memᴰ e table

-- the state after an entry that was met in state m: a value uses up one of those announced (001, 4.2.2.2)
unfoldable pub state_after : ℕ → Entry → ℕ
state_after m e = pred m + e.announces

-- the entries, each out of the table of the state that it is met in, lead from state m to state n
abbrev pub Row : Scheme → ℕ → List Entry → ℕ → Type 0
Row scheme m [] n = m ≡ n
Row scheme m (e ∷ es) n = In e (scheme.table m) × Row scheme (state_after m e) es n

-- their codes in a row: a stream of bits and not of bytes (001, 4.2.2.2 and 4.5)
unfoldable pub codes : List Entry → List ℕ
codes [] = []
codes (e ∷ es) = e.code ++ codes es

-- what they say
unfoldable pub texts : List Entry → List ℕ
texts [] = []
texts (e ∷ es) = e.says ++ texts es

-- so many bits or fewer that are all ones: seven, where the last byte is filled with ones (001, 4.4 and 4.5; RULES, Formats: in Pseudo Binary too)
pub record Fill (unused : ℕ) (f : List ℕ) : Type 0 where
  pub few : length f ≤ unused
  pub ones : f ≡ replicate (length f) 1

-- the bits c begin the bits bs
abbrev pub Begins : List ℕ → List ℕ → Type 0
Begins c bs = (rest : List ℕ) × (bs ≡ c ++ rest)

-- from state m these bits are a building of the text: entries that say it, their codes in a row, then fill.
-- No announced value is missing at the end
pub record Builds (scheme : Scheme) (m : ℕ) (bs text : List ℕ) : Type 0 where
  pub entries : List Entry
  pub fill : List ℕ
  pub row : Row scheme m entries 0
  pub says : texts entries ≡ text
  pub ends : Fill scheme.unused fill
  pub bits : bs ≡ codes entries ++ fill

-- from state m the reading is stuck at bit i: entries take the bits before it, no entry of the table begins what follows, and the reading does not
-- end there. It ends where the next indicator or code would start and no bits remain, or as few as may be unused that are all ones
pub record Stuck (scheme : Scheme) (m : ℕ) (bs : List ℕ) (i : ℕ) : Type 0 where
  pub entries : List Entry
  pub state : ℕ
  pub rest : List ℕ
  pub row : Row scheme m entries state
  pub place : i ≡ length (codes entries)
  pub bits : bs ≡ codes entries ++ rest
  pub none : (e : Entry) → In e (scheme.table state) → Begins e.code rest → ⊥
  pub no_end : state ≡ 0 → Fill scheme.unused rest → ⊥

-- how many indicators, values and codes a building has; its fill is none
abbrev pub count_in : {scheme : Scheme} {m : ℕ} {bs text : List ℕ} → Builds scheme m bs text → ℕ
count_in b = length b.entries

-- and how many stand before the bit at which a reading is stuck
abbrev pub count_before : {scheme : Scheme} {m i : ℕ} {bs : List ℕ} → Stuck scheme m bs i → ℕ
count_before s = length s.entries

-- how many bits of a building stand before its fill: those of its codes
abbrev pub bits_in : {scheme : Scheme} {m : ℕ} {bs text : List ℕ} → Builds scheme m bs text → ℕ
bits_in b = length (codes b.entries)

-- what a maker may build of the text: its data bytes are such codes and fill, from where no value is announced
abbrev pub Built : Scheme → List ℕ → List ℕ → Type 0
Built scheme text sent = Builds scheme 0 (bits sent) text

-- the data is malformed, and the first unreadable indicator, value or code starts at bit i
abbrev pub Malformed : Scheme → List ℕ → ℕ → Type 0
Malformed scheme sent i = Stuck scheme 0 (bits sent) i
