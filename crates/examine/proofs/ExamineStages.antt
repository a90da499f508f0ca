-- The tests of a packet, one after the other: before each, no condition of an earlier turn holds.
-- Assumes nothing.
use mathlib.Core.List.{List}
use mathlib.Core.Logic.{◌⊎◌, ⊎_elim}
use mathlib.Core.Path.{◌≡◌, refl, ◌∙◌, subst}
use Prim.Native.Nat.{ℕ, suc, ◌≤◌, ◌<◌}
use native.Mathlib.Omega.{arith}
use lib.ListN.{length, get_or, drop}
use Rattle.header.specs.declared.Format.{Format}
use Rattle.header.specs.Fields.{fields_in}
use Rattle.header.specs.Formats.{HasFormat}
use Rattle.header.specs.Valid.{length_in}
use Rattle.header.proofs.Formats.{one_format}
use Rattle.distance.specs.Distance.{ValidWithin}
use Rattle.sections.proofs.Once.{never_both}
use Rattle.formats.specs.Data.{Carries, Unreadable, UnreadableAfter}
use Rattle.formats.proofs.Formats.{never-unreadable}
use Rattle.refusals.specs.Match.{turn_in, reader_order, reader_turn}
use Rattle.refusals.proofs.Known.{examine_from, examine_known, examine-at-turn}
use Rattle.refusals.proofs.Refused as refused
use Rattle.terms.specs.declared.Terms.{Terms}
use Rattle.examine.specs.Examine.{Fault, Framed}
use Rattle.packet.specs.Packet.{whole_length, received, data_in, Summed, FirstUnsummed}
use Rattle.terms.specs.Terms.{MayMend, MayBeNamed}
use Rattle.examine.proofs.Headers.{under}

module _ (terms : Terms) (packet : List ℕ) where
  -- no condition that is tested before that of this number holds
  abbrev pub Clear : ℕ → Type 0
  Clear = refused.Clear examine_known (Fault terms packet) reader_turn

  next : (k l : ℕ) → get_or reader_order (reader_turn k) 0 ≡ k → reader_turn l ≡ suc (reader_turn k) → Clear k
      → ((v c : ℕ) → Fault terms packet (examine_from (k, v, c)) → ⊥) → Clear l
  next k l there =
      refused.clear_next examine_known (Fault terms packet) reader_turn k l (λ r e. examine-at-turn r (reader_turn k) e ∙ there)

  pub clear-seventeen : Clear 17
  unfolding turn_in
  clear-seventeen other lt f = omega arith

  pub clear-one : MayMend terms.mend → Clear 1
  unfolding examine_from turn_in
  clear-one bits = next 17 1 refl refl clear-seventeen (λ v c f. f bits)

  pub clear-two : MayMend terms.mend → 4 ≤ length packet → Clear 2
  unfolding examine_from turn_in
  clear-two bits four = next 1 2 refl refl (clear-one bits) (λ v c f. omega arith)

  pub clear-three : MayMend terms.mend → 4 ≤ length packet → (header : ℕ) → ValidWithin terms.mend (received packet) header → Clear 3
  unfolding examine_from turn_in
  clear-three bits four header near = next 2 3 refl refl (clear-two bits four) (λ v c f. f header near)

  module _ (named : MayBeNamed terms) where
    -- under the header that the packet is read as
    module _ (header : ℕ) (near : ValidWithin terms.mend (received packet) header) (four : 4 ≤ length packet) (format : Format)
        (typed : HasFormat (fields_in header) format) where
      pub clear-four : Clear 4
      unfolding examine_from turn_in
      clear-four =
          next 3 4 refl refl (clear-three named.bits four header near)
          (λ v c f. under terms named packet (λ (h : ℕ). (k : Format) → HasFormat (fields_in h) k → ⊥) header near f format typed)

      pub clear-five : 1 ≤ length_in header → length_in header ≤ terms.most → Clear 5
      unfolding examine_from turn_in
      clear-five some few =
          next 4 5 refl refl clear-four
          (λ v c f.
          ⊎_elim (λ none. omega arith) (λ many. omega arith)
          (under terms named packet (λ (h : ℕ). (length_in h ≡ 0) ⊎ (terms.most < length_in h)) header near f))

    -- tests 1 to 5 are passed
    module _ (header : ℕ) (format : Format) (framed : Framed terms packet format header) where
      pub clear-six : Clear 6
      unfolding examine_from turn_in
      clear-six =
          next 5 6 refl refl (clear-five header framed.near (omega (arith, framed.whole)) format framed.typed framed.some framed.few)
          (λ v c f.
          let short = under terms named packet (λ (h : ℕ). length packet < whole_length (length_in h)) header framed.near f in omega (arith, framed.whole))

      pub clear-seven : Summed header packet → Clear 7
      unfolding examine_from turn_in
      clear-seven summed =
          next 6 7 refl refl clear-six
          (λ v c f.
          never_both (length_in header) (drop 4 packet) v summed (under terms named packet (λ (h : ℕ). FirstUnsummed h packet v) header framed.near f))

      pub clear-eight : Summed header packet → (text : List ℕ) → Carries format text (data_in header packet) → Clear 8
      unfolding examine_from turn_in
      clear-eight summed text carries =
          next 7 8 refl refl (clear-seven summed)
          (λ v c f.
          let other =
          under terms named packet (λ (h : ℕ). (k : Format) × HasFormat (fields_in h) k × UnreadableAfter k (data_in h packet) v c) header framed.near f in
          never-unreadable format text (data_in header packet) v carries
          (subst (λ (k : Format). Unreadable k (data_in header packet) v) (one_format other.1 framed.typed) other.2.0))
