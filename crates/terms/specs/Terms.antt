-- What a caller sets: the most header bits to mend, and the most data bytes of a packet. Everything that is said of reading and writing is said under terms.
-- Assumes nothing.
use Rattle.std.specs.Prelude.{Bool, true, false, ℕ, ◌≤◌}
use Rattle.terms.specs.declared.Terms.{Terms}

-- the numbers of header bits that may be named: two or fewer (RULES, Packet)
abbrev pub MayMend : ℕ → Type 0
MayMend mend = mend ≤ 2

-- the most data bytes of one packet (001, 3.2): 4,000 at 300 bps, and 16,000 at 1200
abbrev pub most_at : (rate-1200 : Bool) → ℕ
most_at false = 4000
most_at true = 16000

-- no more data bytes than one packet holds at either rate
abbrev pub OnePacket : ℕ → Type 0
OnePacket most = most ≤ 16000

-- the terms that may be named
pub record MayBeNamed (terms : Terms) : Type 0 where
  pub bits : MayMend terms.mend
  pub bytes : OnePacket terms.most

-- those of a call that names this number of header bits and this rate
abbrev pub naming : ℕ → Bool → Terms
naming mend rate-1200 = record { mend = mend; most = most_at rate-1200 }

-- and of a call that names the rate alone: one bit
abbrev pub usual : Bool → Terms
usual = naming 1
