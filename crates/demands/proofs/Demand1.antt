-- Demand 1 holds, whatever number of bits is named.
-- Assumes nothing.
use mathlib.Core.Bool.{Bool}
use mathlib.Core.List.{List, [], ◌∷◌}
use mathlib.Core.Logic.{◌⊎◌, inr, ⊎_elim, ◌↔◌}
use mathlib.Core.Path.{◌≡◌, refl, sym, ap, ap₂, ◌∙◌, subst}
use Prim.Native.Nat.{ℕ, zero, suc, ◌≤◌, ◌<◌}
use native.Mathlib.Nat.{le_of_suc-le-suc}
use native.Mathlib.Omega.{arith}
use lib.Dec.{T}
use lib.ListN.{length, get_or, take, drop}
use lib.Seq.{drop_at, length-take-le, get_or-take}
use Rattle.std.specs.Prelude.{Err}
use Rattle.bits.proofs.Below.{below_next}
use Rattle.header.specs.declared.Format.{Format}
use Rattle.header.specs.declared.Format.TheVariants.{Open, PseudoBinary, Numeric, Shef, FullAscii}
use Rattle.codes.specs.Coded.{CodedBelow}
use Rattle.full_ascii.proofs.Writer as ascii-writer
use Rattle.numeric.proofs.Table as numeric-table
use Rattle.pseudo_binary.proofs.Writer as pseudo-writer
use Rattle.shef.proofs.Table as shef-table
use Rattle.formats.specs.Data.{Carries, UnreadableAfter, coded, AllCoded, Uncoded, data_of, comes_back}
use Rattle.formats.proofs.Bits.{no-fewer}
use Rattle.formats.proofs.Formats.{carries-coded, back-coded, readable, never-unreadable, writer-carries}
use Rattle.refusals.specs.declared.ExamineRefusal.{ExamineRefusal}
use Rattle.refusals.specs.declared.ReadRefusal.{ReadRefusal}
use Rattle.refusals.specs.declared.WriteRefusal.{WriteRefusal}
use Rattle.refusals.specs.Match.{FirstMatch, reader_turn, writer_turn}
use Rattle.refusals.specs.Refusals.{Told, examine_told, read_told, write_told}
use Rattle.refusals.proofs.Refused.{numbered}
use Rattle.terms.specs.declared.Terms.{Terms}
use Rattle.examine.specs.Examine.{Fault, Examines}
use Rattle.packet.specs.Packet.{whole_length, header_for}
use Rattle.reader.specs.Reader.{ReadAnswer, ReadFault, Reads}
use Rattle.terms.specs.Terms.{OnePacket}
use Rattle.writer.specs.Writer.{WriteAnswer, WriteFault, Writes, our_packet}
use Rattle.examine.proofs.ExamineOnce.{examines-one}
use Rattle.reader.proofs.ReadOnce.{reads-one}
use Rattle.writer.proofs.WriteOnce.{writes_one}
use Rattle.demands.specs.Demand1.{RefusedExactly, StuckAt, Demand1, Conditions}
use Rattle.demands.proofs.Parts.{packet-length}

-- where the answer is a refusal exactly when that is the first match, it is so by numbers
exactly : (Refusal : Type 0) (told : Refusal → Told) (Fault : Refusal → Type 0) (turn : ℕ → ℕ) (Answered : Refusal → Type 0)
    → ((r : Refusal) → Answered r → FirstMatch Refusal told Fault turn r) → ((r : Refusal) → FirstMatch Refusal told Fault turn r → Answered r)
    → RefusedExactly Refusal told Fault turn Answered
exactly Refusal told Fault turn Answered to from as-told =
    let first = numbered Refusal told Fault turn as-told in
    (λ a. first.0 (a.0, a.1, to a.0 a.2), λ f. let r = first.1 f in (r.0, r.1, from r.0 r.2))

pub our-length : (format : Format) (sync : Bool) (text : List ℕ) → length (our_packet format sync text) ≡ whole_length (length (data_of format text))
unfolding our_packet
our-length format sync text = packet-length (header_for format sync (length (data_of format text))) (data_of format text)

module _ (terms : Terms) (bytes : OnePacket terms.most) where
  pub demand-1 : Demand1 terms
  demand-1 = record {
    examine-refuses = λ packet answer examines.
        exactly ExamineRefusal examine_told (Fault terms packet) reader_turn (λ refusal. answer ≡ Err refusal)
        (λ r e. subst (Examines terms packet) e examines) (λ r f. examines-one terms bytes packet answer (Err r) examines f);
    read-refuses = λ packet entry exit answer reads.
        exactly ReadRefusal read_told (ReadFault terms packet (length entry)) reader_turn (λ refusal. answer ≡ Err refusal)
        (λ r e. (subst (λ (a : ReadAnswer). Reads terms packet entry a exit) e reads).0)
        (λ r f. (reads-one terms bytes packet entry answer (Err r) exit entry reads (f, refl)).0);
    write-refuses = λ number sync text entry exit answer writes.
        exactly WriteRefusal write_told (WriteFault terms number text (length entry)) writer_turn (λ refusal. answer ≡ Err refusal)
        (λ r e. (subst (λ (a : WriteAnswer). Writes terms number sync text entry a exit) e writes).0)
        (λ r f. (writes_one terms number sync text entry answer (Err r) exit entry writes (f, refl)).0);
    read-refusal-changes-nothing = λ packet entry exit refusal reads. reads.1;
    write-refusal-changes-nothing = λ number sync text entry exit refusal writes. writes.1;
    read-writes-counted = λ packet entry exit reading reads.
        let text = reads.0 in
        let long = ap (λ (r : _). r.text_length) reads.1.is in
        ap₂ drop long reads.3 ∙ drop_at text (drop (length text) entry) (length text) refl ∙ ap (λ (n : ℕ). drop n entry) (sym long);
    write-writes-counted = λ number sync text entry exit n writes.
        ap (drop n) writes.2
        ∙ drop_at (our_packet writes.0 sync text) (drop n entry) n (our-length writes.0 sync text ∙ sym writes.1.fits);
  }

-- ---- the conditions

malformed-bit : (format : Format) (carried : List ℕ) (bit codes : ℕ) → UnreadableAfter format carried bit codes ↔ StuckAt format carried bit codes
malformed-bit Open carried bit codes = (λ u. u.0, λ s. absurd s)
malformed-bit PseudoBinary carried bit codes =
    ((pseudo-writer.reading-agrees).malformed-is-stuck bit codes carried, (pseudo-writer.reading-agrees).stuck-is-malformed bit codes carried)
malformed-bit Numeric carried bit codes =
    ((numeric-table.reading-agrees).malformed-is-stuck bit codes carried, (numeric-table.reading-agrees).stuck-is-malformed bit codes carried)
malformed-bit Shef carried bit codes =
    ((shef-table.reading-agrees).malformed-is-stuck bit codes carried, (shef-table.reading-agrees).stuck-is-malformed bit codes carried)
malformed-bit FullAscii carried bit codes =
    ((ascii-writer.reading-agrees).malformed-is-stuck bit codes carried, (ascii-writer.reading-agrees).stuck-is-malformed bit codes carried)

take-front : (i n : ℕ) (l : List ℕ) → i ≤ n → take i (take n l) ≡ take i l
take-front zero n l le = refl
take-front (suc i) zero l le = absurd (let no' : ⊥ = omega arith in no')
take-front (suc i) (suc n) [] le = refl
take-front (suc i) (suc n) (c ∷ l) le = ap (λ (r : List ℕ). c ∷ r) (take-front i n l (le_of_suc-le-suc le))

-- characters have codes in a text as in the text up to a place behind them
module _ (format : Format) (text : List ℕ) where
  same_place : (n i : ℕ) → i < n → coded format (take i (take n text)) (get_or (take n text) i 0) ≡ coded format (take i text) (get_or text i 0)
  same_place n i lt = ap₂ (coded format) (take-front i n text (omega arith)) (get_or-take n text i 0 lt)

  coded-front : (n : ℕ) → n ≤ length text → CodedBelow (coded format) text n ↔ AllCoded format (take n text)
  coded-front n le = (
    λ h i lt.
        let below : i < n = omega (arith, length-take-le n text le) in
        subst T (sym (same_place n i below)) (h i below),
    λ h i lt. subst T (same_place n i lt) (h i (omega (arith, length-take-le n text le))),
  )

  one_more : (index : ℕ) → CodedBelow (coded format) text index → T (coded format (take index text) (get_or text index 0))
      → CodedBelow (coded format) text (suc index)
  one_more index = below_next (λ (k : ℕ). T (coded format (take k text) (get_or text k 0))) index

  no-code-index : (index : ℕ)
      → Uncoded format text index ↔ ((index < length text) × AllCoded format (take index text) × (AllCoded format (take (suc index) text) → ⊥))
  no-code-index index = (
    λ u. (
      u.there,
      (coded-front index (omega (arith, u.there))).0 u.before,
      λ all. u.none ((coded-front (suc index) u.there).1 all index (omega arith)),
    ),
    λ p.
        let before = (coded-front index (omega (arith, p.0))).1 p.1 in
        record { there = p.0; before = before; none = λ has. p.2 ((coded-front (suc index) p.0).0 (one_more index before has)) },
  )

  no-code-means : (index : ℕ)
      → Uncoded format text index
      ↔ ((index < length text) × ((index ≡ 0) ⊎ ((carried : List ℕ) × Carries format (comes_back format (take index text)) carried))
      × ((carried : List ℕ) → Carries format (comes_back format (take (suc index) text)) carried → ⊥))
  no-code-means index = (
    λ u.
        let p = (no-code-index index).0 u in
        (p.0, inr (data_of format (take index text), writer-carries format (take index text) p.1), λ carried c. p.2 (back-coded format (take (suc index) text) carried c)),
    λ p.
        (no-code-index index).1 (
          p.0,
          ⊎_elim (λ e. subst (λ (n : ℕ). AllCoded format (take n text)) (sym e) (λ i lt. absurd (let no' : ⊥ = omega arith in no')))
              (λ s. back-coded format (take index text) s.0 s.1) p.1,
          λ all. p.2 (data_of format (take (suc index) text)) (writer-carries format (take (suc index) text) all),
        ),
  )

pub conditions : (terms : Terms) → Conditions terms
conditions terms = record {
  malformed-means = λ format carried. (
    λ u text c. never-unreadable format text carried u.0 c u.1,
    λ none. ⊎_elim (λ r. absurd (none r.0 r.1)) (λ u. u) (readable format carried),
  );
  malformed-bit = malformed-bit;
  carried-coded = carries-coded;
  coded-carried = writer-carries;
  no-code-index = no-code-index;
  no-code-means = no-code-means;
  too-long-means = λ format text coded. (
    λ long carried c. omega (arith, no-fewer format text carried coded c),
    λ all. all (data_of format text) (writer-carries format text coded),
  );
}
