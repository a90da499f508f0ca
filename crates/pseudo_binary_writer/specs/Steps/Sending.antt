-- An indicator as the writer sends it, and what the writer's functions answer.
-- Assumes nothing.
use Rattle.std.specs.Prelude.{◌≡◌, ◌&&◌, List, ◌∷◌, ◌++◌, ℕ, ◌+◌, ◌*◌, ◌%◌, ◌^◌, ◌≤◌, ◌<◌, leb, length, take, drop, get_or}
use Rattle.codes.specs.Chain.{Entry, codes}
use Rattle.codes.specs.Steps.Laid.{Fronted}
use Rattle.codes.specs.Pack.{low, written}
use Rattle.pseudo_binary.specs.Table.{Kind, values, is_of}
use Rattle.pseudo_binary.specs.Writer.{Alike, ours_after, ours}
use Rattle.pseudo_binary_writer.specs.declared.Sent.{Sent}
use Rattle.pseudo_binary_writer.specs.declared.Extent.{Extent}

-- the characters of kind k are those from a to b
abbrev pub Between : Kind → ℕ → ℕ → Type 0
Between k a b = (c : ℕ) → is_of k c ≡ (leb a c && leb c b)

-- the first indicator of ours of the text: its bits as a number. After it come the values that it announces, or the text after the characters
-- that it says
pub record FirstIndicatorOf (text : List ℕ) (r : Sent) : Type 0 where
  pub entry : Entry
  pub first : ours text ≡ entry ∷ ours_after r.values (drop r.count text)
  pub code : entry.code ≡ low r.width r.bits
  pub fits : r.bits < 2 ^ r.width
  pub short : 6 ≤ r.width
  pub long : r.width ≤ 8
  pub some : 1 ≤ r.count + r.values
  pub few : r.values ≤ 128
  pub within : r.count + r.values ≤ length text
  pub alike : Alike values (take r.values (drop r.count text))

-- what the first indicator of ours of the text takes, with the values that it announces
pub record ExtentOf (text : List ℕ) (r : Extent) : Type 0 where
  pub sent : Sent
  pub first : FirstIndicatorOf text sent
  pub width : r.bits ≡ sent.width + sent.values * 6
  pub says : r.count ≡ sent.count + sent.values

-- the values of two characters from place i on, six bits each, as one number
abbrev pub two_values : List ℕ → ℕ → ℕ
two_values text i = get_or text i 0 % 64 * 64 + get_or text (i + 1) 0 % 64

-- and of four
abbrev pub four_values : List ℕ → ℕ → ℕ
four_values text i =
    ((get_or text i 0 % 64 * 64 + get_or text (i + 1) 0 % 64) * 64 + get_or text (i + 2) 0 % 64) * 64 + get_or text (i + 3) 0 % 64

-- the bits of the values of eight characters from place i on
abbrev pub eight_values : List ℕ → ℕ → List ℕ
eight_values text i = low 24 (four_values text i) ++ low 24 (four_values text (i + 4))

-- what comes next of our codes, where m values are announced: its bits as a number. After it so many values are announced, from the text
-- after the characters that it says
pub record NextOf (m : ℕ) (text : List ℕ) (r : Sent) : Type 0 where
  pub next : codes (ours_after m text) ≡ low r.width r.bits ++ codes (ours_after r.values (drop r.count text))
  pub fits : r.bits < 2 ^ r.width
  pub short : 6 ≤ r.width
  pub long : r.width ≤ 24
  pub within : r.count + r.values ≤ length text
  pub alike : Alike values (take r.values (drop r.count text))

-- what our writer builds of the text stands at the front of the buffer, r bytes, and nothing else changed
abbrev pub PutsOurs : List ℕ → List ℕ → List ℕ → ℕ → Type 0
PutsOurs text = Fronted (written (ours text))
