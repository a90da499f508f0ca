-- Data that is read up to a bit: the entries that were passed, and what they said, counted or laid into a buffer. It holds of every scheme.
-- Assumes nothing.
use Rattle.std.specs.Prelude.{◌≡◌, List, ◌++◌, ℕ, ◌+◌, length}
use Rattle.codes.specs.Chain.{Entry, Scheme, Row, codes as codes_of, texts}
use Rattle.codes.specs.Steps.Laid.{laid}

-- from where nothing is announced to state m the bits bs were passed up to `rest`, and so far they say `said` in so many codes
pub record Passed (scheme : Scheme) (bs : List ℕ) (m : ℕ) (rest said : List ℕ) (codes : ℕ) : Type 0 where
  pub entries : List Entry
  pub row : Row scheme 0 entries m
  pub says : texts entries ≡ said
  pub bits : bs ≡ codes_of entries ++ rest
  pub count : length entries ≡ codes

-- the bits bs are read up to `rest`, where nothing is announced: so many codes, which said n characters
pub record CountedSoFar (scheme : Scheme) (bs rest : List ℕ) (n codes : ℕ) : Type 0 where
  pub said : List ℕ
  pub counts : length said ≡ n
  pub passed : Passed scheme bs 0 rest said codes

-- the bits bs are read up to `rest`, where nothing is announced, and what they said stands in the buffer from place m up to place n
pub record LaidSoFar (scheme : Scheme) (bs rest entry out : List ℕ) (m n : ℕ) : Type 0 where
  pub said : List ℕ
  pub codes : ℕ
  pub passed : Passed scheme bs 0 rest said codes
  pub place : n ≡ m + length said
  pub whole : out ≡ laid entry m said
