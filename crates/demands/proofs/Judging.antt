-- What was promised of judging holds, under all terms.
-- Assumes nothing.
use mathlib.Core.Bool.{Bool}
use mathlib.Core.List.{List, [], ◌∷◌}
use mathlib.Core.Logic.{◌↔◌}
use mathlib.Core.Path.{◌≡◌, refl, ap, subst, subst₂, ◌∙◌}
use Prim.Native.Nat.{ℕ, ◌≤◌}
use native.Mathlib.Omega.{arith}
use lib.ListN.{length}
use Rattle.std.specs.Prelude.{Ok, Err, Option, Some, None}
use Rattle.header.specs.declared.Format.{Format}
use Rattle.header.specs.declared.Format.TheVariants.{Open}
use Rattle.header.specs.Formats.{format_number}
use Rattle.header.proofs.Formats.{one_number}
use Rattle.sections.specs.Sections.{in_sections}
use Rattle.formats.specs.Data.{data_of, comes_back}
use Rattle.packet.specs.Packet.{data_in, header_for}
use Rattle.packet.proofs.Sent.{arrived, header-length, data_is}
use Rattle.refusals.specs.declared.ExamineRefusal.{ExamineRefusal}
use Rattle.terms.specs.declared.Terms.{Terms}
use Rattle.terms.specs.Terms.{MayMend, OnePacket, MayBeNamed}
use Rattle.examine.specs.Examine.{ExamineAnswer, Allowed, Examines}
use Rattle.examine.proofs.ExamineOnce.{examines-one, accepts-no-fault}
use Rattle.examine.proofs.Sent.{sent-allowed}
use Rattle.apart.specs.declared.Judgement.{Judgement}
use Rattle.apart.specs.Comparison.{Compares, Against}
use Rattle.judge.specs.Judge.{JudgeAnswer, Judges}
use Rattle.apart.proofs.Comparing.{one-comparison, one-judgement}
use Rattle.judge.proofs.JudgeOnce.{allowed-accepts, held-so, judges-one}
use Rattle.judge.proofs.Makers.{none-behind, written-again, one-way-ours}
use Rattle.writer.specs.Writer.{our_packet, WriteAccepts, Writes}
use Rattle.demands.specs.Judging.{just_ours, Judging}
use Rattle.demands.specs.Makers.{Made, Flipped, arriving}
use Rattle.demands.proofs.Demand2.{written-is-made}
use Rattle.demands.proofs.Demand3.{small, near, arrives}

none_left : (rest : List ℕ) → length rest ≡ 0 → rest ≡ []
none_left [] none = refl
none_left (x ∷ rest) none = absurd (let no' : ⊥ = omega (arith, none) in no')

-- the same bytes are judged as ours, with none more
just-ours : (theirs ours : List ℕ) (judgement : Judgement) → Against theirs ours judgement → theirs ≡ ours → Ok judgement ≡ just_ours
just-ours theirs ours judgement against same =
    ap {B = JudgeAnswer} Ok
    (one-judgement theirs ours judgement (record { departs_at = None; more = 0 }) against
    (record { compares = same; longer = omega (arith, ap length same) }))

module _ (terms : Terms) (bytes : OnePacket terms.most) where
  refused-as-read : (packet : List ℕ) (judged : JudgeAnswer) (examined : ExamineAnswer) → Judges terms packet judged → Examines terms packet examined
      → (refusal : ExamineRefusal) → (judged ≡ Err refusal) ↔ (examined ≡ Err refusal)
  refused-as-read packet judged examined judges examines refusal = (
    λ e. examines-one terms bytes packet examined (Err refusal) examines (subst (Judges terms packet) e judges),
    λ e. judges-one terms packet bytes judged (Err refusal) judges (subst (Examines terms packet) e examines),
  )

  -- ---- of a packet that is allowed with a text

  module _ (packet : List ℕ) (format : Format) (header : ℕ) (text : List ℕ) (allowed : Allowed terms packet format header text) where
    named : MayBeNamed terms
    named = record { bits = allowed.framed.bits; bytes = bytes }

    against : (judgement : Judgement) → Judges terms packet (Ok judgement) → Against (data_in header packet) (data_of format text) judgement
    against judgement judges = held-so terms packet named judgement judges format header text allowed

    -- it is judged so, whatever that is, exactly when it compares so
    exactly : (judgement : Judgement) → Judges terms packet (Ok judgement) → (other : Option ℕ)
        → (judgement.departs_at ≡ other) ↔ Compares (data_in header packet) (data_of format text) other
    exactly judgement judges other = (
      λ e. subst (Compares (data_in header packet) (data_of format text)) e (against judgement judges).compares,
      one-comparison (data_in header packet) (data_of format text) judgement.departs_at other (against judgement judges).compares,
    )

    -- where it is ours, it is judged as ours
    same-as-ours : data_in header packet ≡ data_of format text → (answer : JudgeAnswer) → Judges terms packet answer → answer ≡ just_ours
    same-as-ours same answer judges =
        judges-one terms packet bytes answer just_ours judges
        (record {
          format = format;
          header = header;
          text = text;
          allowed = allowed;
          against = record { compares = same; longer = omega (arith, ap length same) };
        })

  -- ---- of a packet that was made

  module _ (mends : MayMend terms.mend) (format : Format) (sync : Bool) (text packet : List ℕ) (made : Made terms format sync text packet) (word : ℕ)
      (flipped : Flipped terms packet word) (after : List ℕ) where
    may : MayBeNamed terms
    may = record { bits = mends; bytes = bytes }

    made-judged : (answer : JudgeAnswer) → Judges terms (arriving word packet after) answer
        → (judgement : Judgement) × (answer ≡ Ok judgement) × Against made.carried (data_of format text) judgement
    made-judged answer judges = pick answer (subst (λ (p : List ℕ). Judges terms p answer) (arrives terms may format sync text packet made word after) judges)
      where
        carried : List ℕ
        carried = made.carried

        header : ℕ
        header = header_for format sync (length carried)

        came : List ℕ
        came = arrived word (in_sections carried) after

        allowed : Allowed terms came format header (comes_back format text)
        allowed =
            sent-allowed terms may format sync word carried after made.some made.few flipped.bits (near terms may format sync text packet made word flipped)
            (comes_back format text) made.carries

        pick : (answer : JudgeAnswer) → Judges terms came answer
            → (judgement : Judgement) × (answer ≡ Ok judgement) × Against carried (data_of format text) judgement
        pick (Ok judgement) held = (
          judgement,
          refl,
          subst₂ (λ (a b : List ℕ). Against a b judgement)
              (data_is word carried after header (header-length format sync (length carried) (small terms may format sync text packet made)))
              (written-again format text made.coded) (against came format header (comes_back format text) allowed judgement held),
        )
        pick (Err refusal) refused = absurd (accepts-no-fault terms may came _ (comes_back format text) (allowed-accepts allowed) refusal refused.fault)

  -- ---- of a packet that our writer made

  ours-as-ours : MayMend terms.mend → (other : Terms) → other.most ≤ terms.most → (format : Format) (sync : Bool) (text entry exit : List ℕ) (n : ℕ)
      → Writes other (format_number format) sync text entry (Ok n) exit → (word : ℕ) → Flipped terms (our_packet format sync text) word
      → (after : List ℕ) (answer : JudgeAnswer) → Judges terms (arriving word (our_packet format sync text) after) answer → answer ≡ just_ours
  ours-as-ours mends other within format sync text entry exit n (named-format, accepts, whole) word flipped after answer judges =
      let a = subst (λ (k : Format). WriteAccepts other (format_number format) text (length entry) k n) (one_number named-format format accepts.named) accepts in
      let made = written-is-made terms format sync text (record { some = a.some; coded = a.coded; few = omega (arith, a.few) }) in
      let j = made-judged mends format sync text (our_packet format sync text) made word flipped after answer judges in
      j.1 ∙ just-ours (data_of format text) (data_of format text) j.0 j.2 refl

pub judging : (terms : Terms) → OnePacket terms.most → Judging terms
judging terms bytes = record {
  judges-one = λ packet. judges-one terms packet bytes;
  refused-as-read = refused-as-read terms bytes;
  yes-exactly = λ packet judgement judges format header text allowed. exactly terms bytes packet format header text allowed judgement judges None;
  first-departs = λ packet judgement judges format header text allowed bit. exactly terms bytes packet format header text allowed judgement judges (Some bit);
  neither-front = λ format text a rest p q. none_left rest (none-behind format text a rest p q);
  more-exactly = λ packet judgement judges format header text allowed. (against terms bytes packet format header text allowed judgement judges).longer;
  made-judged = made-judged terms bytes;
  ours-as-ours = ours-as-ours terms bytes;
  open-as-ours = λ packet header text allowed. same-as-ours terms bytes packet Open header text allowed allowed.carries;
  one-way-as-ours = λ format once packet header text row allowed.
      same-as-ours terms bytes packet format header text allowed (one-way-ours format once text (data_in header packet) row allowed.carries);
}
