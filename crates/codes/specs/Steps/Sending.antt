-- Codes as a writer sends them: joined to one number, and into a buffer by way of bits that are held.
-- Assumes nothing.
use Rattle.std.specs.Prelude.{◌≡◌, List, ◌++◌, ℕ, ◌+◌, ◌*◌, ◌/◌, ◌%◌, ◌^◌, ◌≤◌, ◌<◌, length, replicate}
use Rattle.bits.specs.Row.{Bytes}
use Rattle.codes.specs.Chain.{Entry, codes}
use Rattle.codes.specs.Pack.{low, gap, written}
use Rattle.codes.specs.Steps.EightBytes.{spilled}
use Rattle.codes.specs.Steps.Pending.{Pending}
use Rattle.codes.specs.declared.Held.{Held}
use Rattle.codes.specs.declared.Sent.{Sent}

-- `rest i` are the bits of a text from its place i on, and so many places there are. The first of these bits, at most so many; then come those of the places
-- that they leave
pub record FirstOf (rest : ℕ → List ℕ) (size i most : ℕ) (r : Sent) : Type 0 where
  pub same : rest i ≡ low r.width r.bits ++ rest (i + r.count)
  pub fits : r.bits < 2 ^ r.width
  pub long : r.width ≤ most
  pub some : 1 ≤ r.count
  pub within : i + r.count ≤ size

-- the bits of one character as a number, at most so many
pub record OneOf (row : List ℕ) (most : ℕ) (r : Sent) : Type 0 where
  pub same : row ≡ low r.width r.bits
  pub fits : r.bits < 2 ^ r.width
  pub long : r.width ≤ most
  pub count : r.count ≡ 1

-- a number of at most so many bits, for at most so many characters
pub record Joinable (most : ℕ) (r : Sent) : Type 0 where
  pub fits : r.bits < 2 ^ r.width
  pub long : r.width ≤ most
  pub count : r.count ≤ most

-- the bits of both, one after the other
pub record Joined (first next r : Sent) : Type 0 where
  pub same : low r.width r.bits ≡ low first.width first.bits ++ low next.width next.bits
  pub fits : r.bits < 2 ^ r.width
  pub width : r.width ≡ first.width + next.width
  pub count : r.count ≡ first.count + next.count

-- and of four
pub record FourJoined (a b c d r : Sent) : Type 0 where
  pub same : low r.width r.bits ≡ (low a.width a.bits ++ low b.width b.bits) ++ (low c.width c.bits ++ low d.width d.bits)
  pub fits : r.bits < 2 ^ r.width
  pub width : r.width ≡ (a.width + b.width) + (c.width + d.width)
  pub count : r.count ≡ (a.count + b.count) + (c.count + d.count)

-- a number of so many bits is put in at the lower end of what is held, and four bytes of it go into the buffer where there are as many
pub record Sends (entry exit : List ℕ) (b : Held) (width number : ℕ) (r : Held) : Type 0 where
  pub held : (k : ℕ) → k + width ≤ 64 → low (k + width) r.held ≡ low k b.held ++ low width number
  pub have : r.have ≡ (b.have + width) % 32
  pub place : r.n ≡ b.n + (b.have + width) / 32 * 4
  pub whole : exit ≡ spilled ((b.have + width) / 32 * 4) entry b.n r.held (b.have + width)

-- these bits come next, and are sent: what was pending after them is pending, with less than four bytes of it held
pub record SendsBits (entry exit : List ℕ) (b : Held) (row : List ℕ) (r : Held) : Type 0 where
  pub few : r.have < 32
  pub place : r.n * 8 + r.have ≡ b.n * 8 + b.have + length row
  pub same : (w front : List ℕ) (m : ℕ) (rest : List ℕ) → Bytes w → m + length w ≤ length front
      → Pending w front entry m b.n b.held b.have (row ++ rest) → Pending w front exit m r.n r.held r.have rest

-- the data of these entries goes into a buffer: what of it is there, what is held, and of their codes `rest` is still to come
pub record PutSoFar (es : List Entry) (entry out : List ℕ) (b : Held) (rest : List ℕ) : Type 0 where
  pub few : b.have < 32
  pub pending : Pending (written es) entry out 0 b.n b.held b.have (rest ++ replicate (gap (length (codes es))) 1)
