-- How far a reading has come. The last character that was read may be the first of a pair: what it says is open until the next one is known.
-- Assumes nothing.
use Rattle.std.specs.Prelude.{List, ◌∷◌, ◌++◌, ◌≡◌, ℕ, ◌+◌, ◌-◌, ◌*◌, ◌/◌, ◌%◌, ◌≤◌, length, get_or, drop}
use Rattle.numeric.specs.Steps.Text.{spelled}
use Rattle.numeric.specs.Translation.{translated}
use Rattle.numeric_reader.specs.Steps.Signs.{sign, upper, lower, sign_after, first_of, second_of}
use Rattle.numeric_reader.specs.declared.Passed.{Passed}
use Rattle.numeric_reader.specs.declared.Place.{Place}

-- the base characters were read up to `rest`: n characters of the text are there, the last of which has this sign. A digit is thought in front of the
-- text, so that there is always a last
pub record Reached (text rest : List ℕ) (before n : ℕ) : Type 0 where
  pub kept : List ℕ
  pub last : ℕ
  pub stands : before ≡ sign last
  pub size : length kept ≡ n
  pub ahead : 48 ∷ text ≡ kept ++ translated (last ∷ rest)

-- and they stand in the buffer, and nothing else changed
pub record Put (text rest entry out : List ℕ) (before n : ℕ) : Type 0 where
  pub reached : Reached text rest before n
  pub whole : 48 ∷ out ≡ reached.kept ++ (reached.last ∷ drop n entry)

-- two characters are passed, known by their entry. A sign is held with an 8 above it
pub record Passes (before entry : ℕ) (r : Passed) : Type 0 where
  pub few : r.fewer ≤ 1
  pub held : r.before / 8 ≡ 1
  pub on : (text rest : List ℕ) (n m : ℕ) → m + r.fewer ≡ n + 2 → Reached text (first_of entry ∷ second_of entry ∷ rest) (before % 8) n
      → Reached text rest (r.before % 8) m

-- a byte is passed behind another
abbrev pub CountsByte : ℕ → ℕ → ℕ → Type 0
CountsByte before b saved =
    (text rest : List ℕ) (n m : ℕ) → m + saved ≡ n + 2 → Reached text (upper b ∷ lower b ∷ rest) (sign_after before) n
    → Reached text rest (sign_after b) m

-- the bytes from one place up to another are
abbrev pub Counts : List ℕ → ℕ → ℕ → ℕ → Type 0
Counts s from to saved =
    (text : List ℕ) (n m : ℕ) → m + saved ≡ n + (to - from) * 2 → Reached text (spelled (drop from s)) (sign_after (get_or s (from - 1) 0)) n
    → Reached text (spelled (drop to s)) (sign_after (get_or s (to - 1) 0)) m

-- there is room for what these characters say
pub record Fits (these out : List ℕ) (before n : ℕ) : Type 0 where
  pub held : before / 8 ≡ 1
  pub text : List ℕ
  pub rest : List ℕ
  pub entry : List ℕ
  pub put : Put text (these ++ rest) entry out (before % 8) n
  pub room : length text ≤ length entry

-- and it is put into the buffer
pub record Puts (these out exit : List ℕ) (before n : ℕ) (r : Place) : Type 0 where
  pub held : r.before / 8 ≡ 1
  pub on : (text rest entry : List ℕ) → length text ≤ length entry → Put text (these ++ rest) entry out (before % 8) n
      → Put text rest entry exit (r.before % 8) r.n
