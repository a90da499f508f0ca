-- Sections of which one came otherwise than it was sent: it is the first whose checksum is wrong.
-- Assumes nothing.
use mathlib.Core.List.{List, [], ◌++◌, append_assoc, append-nil}
use mathlib.Core.Path.{◌≡◌, sym, ap, ◌∙◌, subst}
use Prim.Native.Nat.{ℕ, suc, ◌+◌, ◌-◌, ◌<◌}
use native.Mathlib.Omega.{arith}
use lib.ListN.{length, length-append}
use Rattle.checksum.specs.Checksum.{checksum_bytes}
use Rattle.sections.specs.Sections.{section_count, sent_length, in_turn, section, sent_section, in_sections, besides, size_of, section_in, sum_behind, RightSum, FirstWrong}
use Rattle.sections.proofs.Found.{section-found, sum-found, section-length, sent-before, sent-length, sent-right}
use Rattle.sections.proofs.Turns.{turns_at}

module _ (carried : List ℕ) (k : ℕ) (there : k < section_count (length carried)) where
  abbrev behind : List ℕ
  behind = in_turn (λ j. sent_section carried (suc k + j)) (section_count (length carried) - suc k)

  -- where what was sent came, it is what was sent
  pub besides-itself : besides carried k (sent_section carried k) ≡ in_sections carried
  unfolding besides in_sections
  besides-itself =
      let all = in_turn (sent_section carried) (section_count (length carried)) in
      let none = ap (λ (l : List ℕ). in_turn (sent_section carried) k ++ (sent_section carried k ++ l)) (append-nil behind) in
      sym (sym (append-nil all) ∙ turns_at (sent_section carried) k (section_count (length carried)) there [] ∙ none)

  pub besides-length : (came : List ℕ) → length came ≡ length (sent_section carried k) → length (besides carried k came) ≡ sent_length (length carried)
  unfolding besides
  besides-length came same =
      let before = in_turn (sent_section carried) k in
      let sent = sent_section carried k in
      let whole : length (before ++ (sent ++ behind)) ≡ sent_length (length carried) = ap length besides-itself ∙ sent-length carried in
      omega (
        arith,
        whole,
        length-append before (sent ++ behind),
        length-append sent behind,
        length-append before (came ++ behind),
        length-append came behind,
      )

  -- as many bytes and a checksum that is not theirs
  module _ (n : ℕ) (long : n ≡ length carried) (row sum after : List ℕ) (as_long : length row ≡ length (section carried k)) (two : length sum ≡ 2)
      (bad : sum ≡ checksum_bytes row → ⊥) where
    abbrev came : List ℕ
    came = besides carried k (row ++ sum) ++ after

    apart : came ≡ in_turn (sent_section carried) k ++ (row ++ (sum ++ (behind ++ after)))
    unfolding besides
    apart =
        append_assoc (in_turn (sent_section carried) k) ((row ++ sum) ++ behind) after
        ∙ ap (λ (l : List ℕ). in_turn (sent_section carried) k ++ l)
        (append_assoc (row ++ sum) behind after ∙ append_assoc row sum (behind ++ after))

    size : length row ≡ size_of n k
    size = as_long ∙ section-length carried k ∙ ap (λ (m : ℕ). size_of m k) (sym long)

    pub first-wrong : FirstWrong n came k
    first-wrong =
        record {
          there = omega arith;
          before = λ j lt.
              subst (λ (l : List ℕ). RightSum n l j) (sym apart) (sent-right carried n long k (omega arith) (row ++ (sum ++ (behind ++ after))) j lt);
          wrong = λ right.
              bad
              (sym (ap (λ (l : List ℕ). sum_behind n l k) apart ∙ sum-found n k (in_turn (sent_section carried) k) row sum (behind ++ after) (sent-before carried k there) size two)
              ∙ right
              ∙ ap checksum_bytes
              (ap (λ (l : List ℕ). section_in n l k) apart
              ∙ section-found n k (in_turn (sent_section carried) k) row sum (behind ++ after) (sent-before carried k there) size two));
        }
