-- What is judged of a packet is one answer.
-- Assumes nothing.
use mathlib.Core.List.{List}
use mathlib.Core.Path.{◌≡◌, refl, sym, ap, subst, subst₂, ◌∙◌}
use Prim.Native.Nat.{ℕ, ◌≤◌}
use native.Mathlib.Decide.{dec_le}
use Rattle.std.specs.Prelude.{Ok, Err}
use Rattle.header.specs.declared.Format.{Format}
use Rattle.apart.specs.declared.Judgement.{Judgement}
use Rattle.apart.specs.Comparison.{Against}
use Rattle.apart.proofs.Comparing.{one-judgement}
use Rattle.formats.specs.Data.{codes_in, data_of}
use Rattle.packet.specs.Packet.{received, data_in}
use Rattle.refusals.specs.declared.ExamineRefusal.TheVariants.{TooManyBits}
use Rattle.terms.specs.declared.Terms.{Terms}
use Rattle.terms.specs.Terms.{MayMend, OnePacket, MayBeNamed}
use Rattle.examine.specs.Examine.{Allowed, reading_of, Accepts}
use Rattle.examine.proofs.ExamineOnce.{refuses-one, accepts-no-fault, same-header, same_format, accepts-one-text, only-too-many}
use Rattle.judge.specs.Judge.{JudgeAnswer, HeldAgainst, Judges}

-- ---- the packet is accepted with one text

pub allowed-accepts : {terms : Terms} {packet text : List ℕ} {format : Format} {header : ℕ} (a : Allowed terms packet format header text)
    → Accepts terms packet (reading_of format header (received packet) text (codes_in format text (data_in header packet) a.carries)) text
allowed-accepts {format = format} {header = header} a = record { format = format; header = header; allowed = a; is = refl }

module _ (terms : Terms) (packet : List ℕ) where
  -- so what is judged of it is said of any text and header that it is accepted with
  pub held-so : MayBeNamed terms → (judgement : Judgement) → HeldAgainst terms packet judgement → (format : Format) (header : ℕ) (text : List ℕ)
      → Allowed terms packet format header text → Against (data_in header packet) (data_of format text) judgement
  unfolding allowed-accepts
  held-so named judgement h format header text a =
      let p = allowed-accepts h.allowed in
      let q = allowed-accepts a in
      let texts = accepts-one-text terms named packet _ _ h.text text p q in
      let headers = same-header terms named packet _ _ h.text text p q in
      let formats = same_format terms named packet _ _ h.text text p q in
      subst₂ (λ (l : List ℕ) (k : Format). Against l (data_of k text) judgement) (ap (λ (n : ℕ). data_in n packet) headers) formats
      (subst (λ (t : List ℕ). Against (data_in h.header packet) (data_of h.format t) judgement) texts h.against)

  -- one answer, whatever number is named
  pub judges-one : OnePacket terms.most → (a b : JudgeAnswer) → Judges terms packet a → Judges terms packet b → a ≡ b
  judges-one bytes a b p q = pick (dec_le terms.mend 2)
    where
      same : MayBeNamed terms → (a b : JudgeAnswer) → Judges terms packet a → Judges terms packet b → a ≡ b
      same named (Ok a) (Ok b) p q =
          ap {B = JudgeAnswer} Ok
          (one-judgement (data_in q.header packet) (data_of q.format q.text) a b (held-so named a p q.format q.header q.text q.allowed) q.against)
      same named (Ok a) (Err s) p q = absurd (accepts-no-fault terms named packet _ p.text (allowed-accepts p.allowed) s q.fault)
      same named (Err r) (Ok b) p q = absurd (accepts-no-fault terms named packet _ q.text (allowed-accepts q.allowed) r p.fault)
      same named (Err r) (Err s) p q = ap {B = JudgeAnswer} Err (refuses-one terms named packet r s p q)

      too_many : (MayMend terms.mend → ⊥) → (a : JudgeAnswer) → Judges terms packet a → a ≡ Err TooManyBits
      too_many many (Ok a) p = absurd (many p.allowed.framed.bits)
      too_many many (Err r) p = ap {B = JudgeAnswer} Err (only-too-many terms packet many r p)

      pick : Dec (terms.mend ≤ 2) → a ≡ b
      pick (yes bits) = same (record { bits = bits; bytes = bytes }) a b p q
      pick (no many) = too_many many a p ∙ sym (too_many many b q)
