-- What reading gives, in the words and the order of RULES, Formats (001, 4.2.2.2 and 4.5): the text, or the bit at which the first unreadable indicator,
-- value or code starts; and how many were read. It rests on the scheme alone, and not on what a maker may build.
-- Assumes nothing.
use Rattle.std.specs.Prelude.{◌≡◌, ◌⊎◌, List, [], ◌++◌, ℕ, suc, ◌+◌, length}
use Rattle.bits.specs.Row.{bits}
use Rattle.codes.specs.Chain.{Entry, Scheme, In, state_after, Fill, Begins}

-- the text, or the bit at which the reading is stuck; and how many indicators, values and codes were read
pub data Answer : Type 0 where
  text : List ℕ → (codes : ℕ) → Answer
  stuck : (bit codes : ℕ) → Answer

-- the answer with an entry in front: its text first, its bits counted, and one more that was read
abbrev pub front : Entry → Answer → Answer
front e (text t codes) = text (e.says ++ t) (suc codes)
front e (stuck i codes) = stuck (length e.code + i) (suc codes)

-- the end rule: where the next indicator or code would start, so no value is announced, and no bits remain, or as few as may be unused (seven) that
-- are all ones
abbrev pub Ends : Scheme → ℕ → List ℕ → Type 0
Ends scheme m bs = (m ≡ 0) × ((bs ≡ []) ⊎ Fill scheme.unused bs)

-- no entry of the table of this state begins the bits
abbrev pub Halts : Scheme → ℕ → List ℕ → Type 0
Halts scheme m bs = (e : Entry) → In e (scheme.table m) → Begins e.code bs → ⊥

-- what reading the bits from state m gives: first the end rule; else the entry of the state's table whose code begins the bits, and then what reading
-- the rest gives; else the bits are malformed right here
pub data Gives (scheme : Scheme) : ℕ → List ℕ → Answer → Type 0 where
  ends : {m : ℕ} {bs : List ℕ} → Ends scheme m bs → Gives scheme m bs (text [] 0)
  takes : {m : ℕ} {e : Entry} {rest : List ℕ} {a : Answer} → (Ends scheme m (e.code ++ rest) → ⊥) → In e (scheme.table m)
      → Gives scheme (state_after m e) rest a → Gives scheme m (e.code ++ rest) (front e a)
  stops : {m : ℕ} {bs : List ℕ} → (Ends scheme m bs → ⊥) → Halts scheme m bs → Gives scheme m bs (stuck 0 0)

-- what reading data bytes gives, from where no value is announced
abbrev pub DataGives : Scheme → List ℕ → Answer → Type 0
DataGives scheme sent a = Gives scheme 0 (bits sent) a
