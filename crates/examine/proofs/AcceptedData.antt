-- The data of a packet that is accepted, as the code takes it: behind the header, by the length that the reading has.
-- Assumes nothing.
use mathlib.Core.List.{List}
use mathlib.Core.Path.{◌≡◌, sym, ap, subst₂}
use Prim.Native.Nat.{ℕ, ◌-◌, ◌≤◌}
use native.Mathlib.Omega.{arith}
use lib.ListN.{length, take, drop}
use Rattle.header.specs.declared.Format.{Format}
use Rattle.header.specs.Valid.{length_in}
use Rattle.sections.specs.Sections.{sent_length, joined}
use Rattle.formats.specs.Data.{Carries}
use Rattle.packet.specs.Packet.{whole_length}
use Rattle.terms.specs.declared.Terms.{Terms}
use Rattle.terms.specs.Terms.{OnePacket}
use Rattle.examine.specs.declared.Reading.{Reading}
use Rattle.examine.specs.Examine.{Accepts}
use Rattle.examine.proofs.ExamineAnswers.{rest-long, data-there}

module _ (terms : Terms) (packet : List ℕ) (bytes : OnePacket terms.most) (reading : Reading) (text : List ℕ) (a : Accepts terms packet reading text) where
  pub data-long : reading.data_length ≡ length_in a.header
  data-long = ap (λ (r : Reading). r.data_length) a.is

  pub whole : whole_length reading.data_length ≤ length packet
  whole = omega (arith, data-long, a.allowed.framed.whole)

  pub short : reading.data_length ≤ 16000
  short = omega (arith, data-long, a.allowed.framed.few, bytes)

  abbrev pub rest : List ℕ
  rest = take (length packet - 4) (drop 4 packet)

  pub all_there : sent_length reading.data_length ≤ length rest
  all_there = rest-long packet reading.data_length whole

  abbrev pub data-in : List ℕ
  data-in = joined reading.data_length rest

  pub carried : Carries reading.format text data-in
  carried =
      subst₂ (λ (k : Format) (l : List ℕ). Carries k text l) (ap (λ (r : Reading). r.format) (sym a.is))
      (sym (data-there packet a.header reading.data_length data-long)) a.allowed.carries
