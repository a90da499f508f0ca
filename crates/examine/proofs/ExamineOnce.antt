-- What is found out about a packet is one answer.
-- Assumes nothing.
use mathlib.Core.List.{List}
use mathlib.Core.Path.{◌≡◌, refl, sym, ap, ap₂, ◌∙◌, subst, subst₂}
use Prim.Native.Nat.{ℕ, ◌≤◌}
use lib.ListN.{drop}
use native.Mathlib.Decide.{dec_le}
use Rattle.std.specs.Prelude.{Ok, Err}
use Rattle.header.specs.declared.Format.{Format}
use Rattle.header.specs.Fields.{fields_in}
use Rattle.header.specs.Formats.{HasFormat}
use Rattle.header.specs.Valid.{length_in}
use Rattle.header.proofs.Formats.{one_format}
use Rattle.sections.proofs.Once.{one-wrong}
use Rattle.formats.specs.Data.{codes_in, CarriesIn, UnreadableAfter}
use Rattle.formats.proofs.Codes.{carries-in-one, unreadable-after-one}
use Rattle.refusals.specs.declared.ExamineRefusal.{ExamineRefusal}
use Rattle.refusals.specs.declared.ExamineRefusal.TheVariants.{TooManyBits, Short, NoHeader, OtherType, OtherLength, CutOff, Checksum, Malformed}
use Rattle.refusals.specs.Match.{turn_in, reader_turn}
use Rattle.refusals.specs.Refusals.{number_in, examine_told}
use Rattle.refusals.proofs.Known.{examine_from, examine_known, examine-at-turn, examine-one-number, before-room}
use Rattle.refusals.proofs.Refused.{match-one, first-of-all}
use Rattle.terms.specs.declared.Terms.{Terms}
use Rattle.examine.specs.declared.Reading.{Reading}
use Rattle.examine.specs.Examine.{ExamineAnswer, Fault, Refuses, reading_of, Accepts, Examines}
use Rattle.packet.specs.Packet.{received, data_in, FirstUnsummed}
use Rattle.terms.specs.Terms.{MayMend, OnePacket, MayBeNamed}
use Rattle.examine.proofs.ExamineStages.{clear-seventeen, clear-eight}
use Rattle.examine.proofs.Headers.{one-header, under}

module _ (terms : Terms) (named : MayBeNamed terms) (packet : List ℕ) where
  places : (i k j l : ℕ) → Fault terms packet (Malformed i k) → Fault terms packet (Malformed j l) → (i ≡ j) × (k ≡ l)
  places i k j l (header, near, (format, typed, stuck)) g =
      let other = under terms named packet (λ (h : ℕ). (f : Format) × HasFormat (fields_in h) f × UnreadableAfter f (data_in h packet) j l) header near g in
      unreadable-after-one format i j (data_in header packet) stuck
      (subst (λ (f : Format). UnreadableAfter f (data_in header packet) j l) (one_format other.1 typed) other.2)

  sections : (j k : ℕ) → Fault terms packet (Checksum j) → Fault terms packet (Checksum k) → j ≡ k
  sections j k (header, near, bad) g =
      one-wrong (length_in header) (drop 4 packet) j k bad (under terms named packet (λ (h : ℕ). FirstUnsummed h packet k) header near g)

  -- a refusal of one number is told one way: 6 with the section, 7 with the bit and the codes, the others with none
  one_told : (r : ExamineRefusal) (v c : ℕ) → Fault terms packet r → Fault terms packet (examine_from (number_in (examine_told r), v, c))
      → r ≡ examine_from (number_in (examine_told r), v, c)
  unfolding examine_from
  one_told TooManyBits v c f g = refl
  one_told Short v c f g = refl
  one_told NoHeader v c f g = refl
  one_told OtherType v c f g = refl
  one_told OtherLength v c f g = refl
  one_told CutOff v c f g = refl
  one_told (Checksum section) v c f g = ap {B = ExamineRefusal} Checksum (sections section v f g)
  one_told (Malformed i k) v c f g = let same = places i k v c f g in ap₂ {C = ExamineRefusal} Malformed same.0 same.1

  pub refuses-one : (r s : ExamineRefusal) → Refuses terms packet r → Refuses terms packet s → r ≡ s
  refuses-one = match-one examine_known (Fault terms packet) reader_turn examine-one-number one_told

  -- what is accepted meets no refusal's condition
  pub accepts-no-fault : (reading : Reading) (text : List ℕ) → Accepts terms packet reading text → (r : ExamineRefusal) → Fault terms packet r → ⊥
  accepts-no-fault reading text a r f =
      clear-eight terms packet named a.header a.format a.allowed.framed a.allowed.summed text a.allowed.carries r
      (before-room r) f

  -- and has one text and one reading
  module _ (a b : Reading) (t u : List ℕ) (p : Accepts terms packet a t) (q : Accepts terms packet b u) where
    pub same-header : p.header ≡ q.header
    same-header = one-header terms named packet p.header q.header p.allowed.framed.near q.allowed.framed.near

    pub same_format : p.format ≡ q.format
    same_format = one_format (subst (λ (h : ℕ). HasFormat (fields_in h) p.format) same-header p.allowed.framed.typed) q.allowed.framed.typed

    -- by a building of the same data in as many codes
    same-carried : (t ≡ u)
        × (codes_in p.format t (data_in p.header packet) p.allowed.carries ≡ codes_in q.format u (data_in q.header packet) q.allowed.carries)
    same-carried =
        carries-in-one q.format t u (data_in q.header packet)
        (subst₂
        (λ (k : Format) (h : ℕ). CarriesIn k (data_in h packet) t (codes_in p.format t (data_in p.header packet) p.allowed.carries))
        same_format same-header (p.allowed.carries, refl))
        (q.allowed.carries, refl)

    pub accepts-one-text : t ≡ u
    accepts-one-text = same-carried.0

    pub accepts-one-reading : a ≡ b
    accepts-one-reading =
        p.is ∙ (λ i. reading_of (same_format i) (same-header i) (received packet) (accepts-one-text i) (same-carried.1 i)) ∙ sym q.is

-- ---- where more bits are named than may be

module _ (terms : Terms) (packet : List ℕ) (many : MayMend terms.mend → ⊥) where
  -- the packet is refused for that, first of all
  pub too_many : Refuses terms packet TooManyBits
  too_many = record { fault = many; first = clear-seventeen terms packet }

  -- for nothing else,
  pub only-too-many : (r : ExamineRefusal) → Refuses terms packet r → r ≡ TooManyBits
  unfolding examine_from turn_in
  only-too-many r p =
      let number = examine-at-turn r 0 (first-of-all examine_known (Fault terms packet) reader_turn r TooManyBits refl many p) in
      sym (examine_known.back r) ∙ ap (λ (n : ℕ). examine_from (n, (examine_told r).1, (examine_told r).2)) number

  -- and not accepted
  pub never-accepted : (reading : Reading) (text : List ℕ) → Accepts terms packet reading text → ⊥
  never-accepted reading text a = many a.allowed.framed.bits

  pub examined-too-many : (answer : ExamineAnswer) → Examines terms packet answer → answer ≡ Err TooManyBits
  examined-too-many (Ok reading) (text, a) = absurd (never-accepted reading text a)
  examined-too-many (Err r) p = ap {B = ExamineAnswer} Err (only-too-many r p)

-- ---- one answer, whatever number is named

pub examines-one : (terms : Terms) → OnePacket terms.most → (packet : List ℕ) (a b : ExamineAnswer) → Examines terms packet a → Examines terms packet b → a ≡ b
examines-one terms bytes packet a b p q = pick (dec_le terms.mend 2)
  where
    same : MayBeNamed terms → (a b : ExamineAnswer) → Examines terms packet a → Examines terms packet b → a ≡ b
    same named (Ok a) (Ok b) (t, p) (u, q) = ap {B = ExamineAnswer} Ok (accepts-one-reading terms named packet a b t u p q)
    same named (Ok a) (Err s) (t, p) q = absurd (accepts-no-fault terms named packet a t p s q.fault)
    same named (Err r) (Ok b) p (u, q) = absurd (accepts-no-fault terms named packet b u q r p.fault)
    same named (Err r) (Err s) p q = ap {B = ExamineAnswer} Err (refuses-one terms named packet r s p q)

    pick : Dec (terms.mend ≤ 2) → a ≡ b
    pick (yes bits) = same (record { bits = bits; bytes = bytes }) a b p q
    pick (no many) = examined-too-many terms packet many a p ∙ sym (examined-too-many terms packet many b q)
