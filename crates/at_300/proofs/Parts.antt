-- The parts of a packet under a header of 1 to 4,000 data bytes.
-- Assumes nothing.
use mathlib.Core.List.{List, [], ◌∷◌, ◌++◌}
use mathlib.Core.Logic.{◌↔◌}
use mathlib.Core.Path.{◌≡◌, sym, ap, ap₂, ◌∙◌, subst}
use Prim.Native.Nat.{ℕ, ◌+◌, ◌≤◌}
use native.Mathlib.Omega.{arith}
use lib.ListN.{length, get_or, drop, length-drop}
use lib.Seq.{get_or-drop}
use Rattle.header.specs.Fields.{bytes_of}
use Rattle.header.specs.Valid.{length_in}
use Rattle.checksum.specs.Checksum.{checksum_bytes}
use Rattle.sections.specs.Sections.{sum_behind, RightSum}
use Rattle.sections.proofs.OneSection.{one-section, one-joined, one-sum, one-sent}
use Rattle.packet.specs.Packet.{whole_length, data_in, Summed, FirstUnsummed, packet_of}
use Rattle.at_300.specs.OneSection.Packet.{data_in as one_data_in, sum_in, packet_of as one_packet_of}

pub whole_same : (n : ℕ) → 1 ≤ n → n ≤ 4000 → whole_length n ≡ n + 6
whole_same n some few = omega arith

pub packet-same : (header : ℕ) (carried : List ℕ) → 1 ≤ length carried → length carried ≤ 4000 → packet_of header carried ≡ one_packet_of header carried
unfolding packet_of one_packet_of
packet-same header carried some few = ap (λ (l : List ℕ). bytes_of header ++ l) (one-sent carried some few)

module _ (header : ℕ) (packet : List ℕ) (some : 1 ≤ length_in header) (few : length_in header ≤ 4000) where
  pub data-same : data_in header packet ≡ one_data_in header packet
  unfolding data_in one_data_in
  data-same = one-joined (length_in header) (drop 4 packet) some few

  -- there are bytes enough
  module _ (whole : length_in header + 6 ≤ length packet) where
    sum_same : sum_behind (length_in header) (drop 4 packet) 0 ≡ sum_in header packet
    unfolding sum_in
    sum_same =
        one-sum (length_in header) (drop 4 packet) some few (omega (arith, length-drop 4 packet))
        ∙ ap₂ (λ (low high : ℕ). low ∷ high ∷ []) (get_or-drop 4 packet (length_in header) 0)
        (get_or-drop 4 packet (length_in header + 1) 0
        ∙ ap (λ (k : ℕ). get_or packet k 0) (let next : 4 + (length_in header + 1) ≡ 5 + length_in header = omega arith in next))

    right-same : RightSum (length_in header) (drop 4 packet) 0 ↔ (sum_in header packet ≡ checksum_bytes (one_data_in header packet))
    unfolding one_data_in
    right-same =
        let data-there = ap checksum_bytes (one-section (length_in header) (drop 4 packet) some few) in
        (λ e. sym sum_same ∙ e ∙ data-there, λ e. sum_same ∙ e ∙ sym data-there)

    pub summed_same : Summed header packet ↔ (sum_in header packet ≡ checksum_bytes (one_data_in header packet))
    summed_same = (
      λ all. right-same.0 (all 0 (omega arith)),
      λ e k lt. subst (RightSum (length_in header) (drop 4 packet)) (let first : 0 ≡ k = omega arith in first) (right-same.1 e),
    )

    -- the one section is the first, and its number is 0
    pub wrong-same : (k : ℕ) → FirstUnsummed header packet k ↔ ((k ≡ 0) × (sum_in header packet ≡ checksum_bytes (one_data_in header packet) → ⊥))
    wrong-same k = (
      λ w.
          let first : k ≡ 0 = omega (arith, w.there) in
          (first, λ e. w.wrong (subst (RightSum (length_in header) (drop 4 packet)) (sym first) (right-same.1 e))),
      λ p.
          record {
            there = omega (arith, p.0);
            before = λ j lt. absurd (let no' : ⊥ = omega (arith, p.0) in no');
            wrong = λ e. p.1 (right-same.0 (subst (RightSum (length_in header) (drop 4 packet)) p.0 e));
          },
    )
