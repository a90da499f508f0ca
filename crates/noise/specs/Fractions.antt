-- How many of all words lie near a valid header: what noise on an empty channel gives, where one word is as likely as another.
-- Assumes nothing.
use Rattle.std.specs.Prelude.{◌≡◌, ℕ, zero, suc, ◌+◌, ◌*◌, ◌^◌, ◌≤◌, ◌<◌}
use Rattle.distance.specs.Distance.{ValidWithin}
use Rattle.noise.specs.HowMany.{HowMany}

-- a word has 32 bits
abbrev pub Word : ℕ → Type 0
Word word = word < 2 ^ 32

-- a word that lies at most so many bits from a valid header
pub record Near (limit word : ℕ) : Type 0 where
  pub bits : Word word
  pub header : ℕ
  pub within : ValidWithin limit word header

-- in how many ways at most so many of so many bits are turned over: one bit is left as it is, or is turned over and leaves one fewer for the others
unfoldable pub ways : ℕ → ℕ → ℕ
ways zero limit = 1
ways (suc width) zero = 1
ways (suc width) (suc limit) = ways width (suc limit) + ways width limit

pub record Fractions : Type 0 where
  -- all words: 2,048 times 2^21
  pub words : HowMany Word (2048 * 2 ^ 21)
  -- those that lie at most two bits from a valid header: 2^21 for each way to turn over at most so many of the 32 bits
  pub near : (limit : ℕ) → limit ≤ 2 → HowMany (Near limit) (ways 32 limit * 2 ^ 21)
  -- so 1 word in 2,048 is a valid header,
  pub clean : ways 32 0 ≡ 1
  -- 33 in 2,048 lie within one bit of one,
  pub one : ways 32 1 ≡ 33
  -- 529 in 2,048 within two bits
  pub two : ways 32 2 ≡ 529
