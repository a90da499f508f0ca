-- What any maker could have built of no more than 4,000 data bytes, and its damage: as it was said of one section.
-- Assumes nothing.
use mathlib.Core.Bool.{Bool}
use mathlib.Core.List.{List, [], ◌∷◌, ◌++◌, append-nil, append_assoc}
use mathlib.Core.Logic.{◌↔◌}
use mathlib.Core.Path.{◌≡◌, sym, ap, ◌∙◌, subst, subst⁻¹}
use Prim.Native.Nat.{ℕ, ◌+◌, ◌-◌, ◌≤◌}
use native.Mathlib.Omega.{arith}
use lib.ListN.{length}
use Rattle.bits.specs.Row.{Bytes}
use Rattle.header.specs.declared.Format.{Format}
use Rattle.header.specs.Fields.{bytes_of}
use Rattle.checksum.specs.Alike.{AlikeBut}
use Rattle.checksum.specs.Checksum.{checksum_bytes}
use Rattle.sections.specs.Sections.{section_count, in_turn, section, sent_section, besides}
use Rattle.sections.proofs.OneSection.{only-section}
use Rattle.packet.specs.Packet.{header_for}
use Rattle.terms.specs.declared.Terms.{Terms}
use Rattle.terms.specs.Terms.{MayBeNamed}
use Rattle.reader.specs.Reader.{Reads}
use Rattle.demands.specs.Makers.{Made}
use Rattle.demands.proofs.Demand3.{demand-3}
use Rattle.at_300.specs.OneSection.Demand3.{Damaged}
use Rattle.at_300.specs.OneSection.Makers as one
use Rattle.at_300.proofs.Parts.{packet-same}
use Rattle.at_300.proofs.Reading.{reads_same}

module _ (carried : List ℕ) (some : 1 ≤ length carried) (few : length carried ≤ 4000) where
  pub all-that-came : (came : List ℕ) → besides carried 0 came ≡ came
  unfolding besides in_turn
  all-that-came came =
      ap (λ (n : ℕ). came ++ in_turn (λ (j : ℕ). sent_section carried (1 + j)) n) (let none : section_count (length carried) - 1 ≡ 0 = omega arith in none)
      ∙ append-nil came

module _ (terms : Terms) (small : terms.most ≤ 4000) where
  module _ (format : Format) (sync : Bool) (text packet : List ℕ) where
    -- of the same data
    abbrev made-now : one.Made terms format sync text packet → Made terms format sync text packet
    made-now m =
        record {
          carried = m.carried;
          coded = m.coded;
          carries = m.carries;
          some = m.some;
          few = m.few;
          is = m.is ∙ sym (packet-same (header_for format sync (length m.carried)) m.carried m.some (omega (arith, m.few)));
        }

    made-before : Made terms format sync text packet → one.Made terms format sync text packet
    made-before m =
        record {
          carried = m.carried;
          coded = m.coded;
          carries = m.carries;
          some = m.some;
          few = m.few;
          is = m.is ∙ packet-same (header_for format sync (length m.carried)) m.carried m.some (omega (arith, m.few));
        }

    pub made-same : Made terms format sync text packet ↔ one.Made terms format sync text packet
    made-same = (made-before, made-now)

  pub damaged-same : MayBeNamed terms → Damaged terms
  damaged-same named = record {
    damaged-data = λ format sync text packet made word flipped after entry exit answer place other bytes other-bytes alike differs reads.
        let carried = made.carried in
        let few : length carried ≤ 4000 = omega (arith, made.few) in
        let only = only-section carried made.some few in
        (demand-3 terms named).damaged-data format sync text packet (made-now format sync text packet made) word flipped after entry exit answer 0
        (omega (arith, made.some)) place other (subst⁻¹ Bytes only bytes) other-bytes (subst⁻¹ (AlikeBut place other) only alike) (λ e. differs (e ∙ only))
        (subst (λ (l : List ℕ). Reads terms l entry answer exit)
        (ap (λ (l : List ℕ). bytes_of word ++ l)
        (sym (append_assoc other (checksum_bytes carried) after)
        ∙ ap (λ (l : List ℕ). (other ++ checksum_bytes l) ++ after) (sym only)
        ∙ ap (λ (l : List ℕ). l ++ after) (sym (all-that-came carried made.some few (other ++ checksum_bytes (section carried 0))))))
        ((reads_same terms small (bytes_of word ++ (other ++ (checksum_bytes carried ++ after))) entry answer exit).1 reads));
    damaged-sum = λ format sync text packet made word flipped after entry exit answer low high differs reads.
        let carried = made.carried in
        let few : length carried ≤ 4000 = omega (arith, made.few) in
        let only = only-section carried made.some few in
        (demand-3 terms named).damaged-sum format sync text packet (made-now format sync text packet made) word flipped after entry exit answer 0
        (omega (arith, made.some)) low high (λ e. differs (e ∙ ap checksum_bytes only))
        (subst (λ (l : List ℕ). Reads terms l entry answer exit)
        (ap (λ (l : List ℕ). bytes_of word ++ l)
        (sym (append_assoc carried (low ∷ high ∷ []) after)
        ∙ ap (λ (l : List ℕ). (l ++ (low ∷ high ∷ [])) ++ after) (sym only)
        ∙ ap (λ (l : List ℕ). l ++ after) (sym (all-that-came carried made.some few (section carried 0 ++ (low ∷ high ∷ []))))))
        ((reads_same terms small (bytes_of word ++ (carried ++ (low ∷ high ∷ after))) entry answer exit).1 reads));
  }
