-- What any maker may send of a text in Compact Pseudo Binary (001, 4.2.2.2): its runs cut as that maker likes. Our writer's way is one of them.
-- Assumes nothing.
use Rattle.std.specs.Prelude.{List, [], ◌∷◌, ◌++◌, ◌≡◌, ℕ, ◌<◌, length}
use Rattle.bits.specs.Row.{bits}
use Rattle.codes.specs.Chain.{Entry, codes, Fill}
use Rattle.pseudo_binary.specs.Table.{Kind, indicator, most, scheme}
use Rattle.pseudo_binary.specs.Writer.{kind, besides, Alike}

-- what the characters of a run take besides their indicator: each value its low six bits
unfoldable pub spelled : Kind → List ℕ → List Entry
spelled k [] = []
spelled k (c ∷ r) = besides k c ++ spelled k r

-- part by part: some characters of one kind, no more than an indicator counts; the indicator that counts them, and what they take besides
pub data Sends : List ℕ → List Entry → Type 0 where
  nothing : Sends [] []
  part : {text : List ℕ} {es : List Entry} (k : Kind) (c : ℕ) (r : List ℕ) → Alike k (c ∷ r) → length r < most k → Sends text es
      → Sends ((c ∷ r) ++ text) (indicator k (length r) ∷ (spelled k (c ∷ r) ++ es))

-- one way of them: each character under an indicator of its own
unfoldable pub singly : List ℕ → List Entry
singly [] = []
singly (c ∷ text) = indicator (kind c) 0 ∷ (besides (kind c) c ++ singly text)

-- the data that a maker may build of the text: the codes of what is sent in a row, then fill
pub record BuildsOf (text carried : List ℕ) : Type 0 where
  pub entries : List Entry
  pub fill : List ℕ
  pub sends : Sends text entries
  pub ends : Fill scheme.unused fill
  pub is : bits carried ≡ codes entries ++ fill
