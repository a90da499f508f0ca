-- Data held against ours by way of a buffer for our data.
-- Assumes nothing.
use mathlib.Core.List.{List, ◌++◌}
use mathlib.Core.Path.{◌≡◌, ap, subst, subst⁻¹, ◌∙◌}
use Prim.Native.Nat.{ℕ, ◌≤◌, ◌<◌}
use native.Mathlib.Omega.{arith}
use lib.ListN.{length, take, drop}
use lib.Seq.{take_at}
use Rattle.header.specs.declared.Format.{Format}
use Rattle.apart.specs.declared.Judgement.{Judgement}
use Rattle.apart.specs.Comparison.{Against}
use Rattle.apart.specs.Steps.Parting.{Comparable}
use Rattle.codes.specs.Steps.Laid.{Fronted}
use Rattle.codes.specs.Steps.Measure.{countable}
use Rattle.formats.specs.Data.{Carries, data_of}
use Rattle.formats.proofs.Bits.{no-fewer}
use Rattle.formats.proofs.Formats.{carries-coded, carries_kept, carries-again}
use Rattle.sections.specs.Sections.{sent_length, joined}
use Rattle.sections.proofs.Found.{joined_length}
use Rattle.judge.specs.Steps.Judging.{MayBeJudged, Fits}
use Rattle.judge.proofs.Makers.{none-behind}

-- a row at the front of a buffer, as the code takes it
pub front-part : {row entry exit : List ℕ} {r : ℕ} → Fronted row entry exit r → take r exit ≡ row
front-part {row} {entry} {exit} {r} f = ap (take r) f.whole ∙ take_at row (drop r entry) r (omega (arith, f.size))

-- the data of sections, joined at the front of a buffer
pub joined-front : (n : ℕ) (came buffer zeros : List ℕ) → sent_length n ≤ length came → buffer ≡ joined n came ++ drop n zeros → take n buffer ≡ joined n came
joined-front n came buffer zeros whole joins = ap (take n) joins ∙ take_at (joined n came) (drop n zeros) n (omega (arith, joined_length n came whole))

-- ---- the text of their data, and our data of it

module _ (format : Format) (theirs text : List ℕ) (carries : Carries format text theirs) where
  pub no_longer : length (data_of format text) ≤ length theirs
  no_longer =
      no-fewer format text theirs (carries-coded format text theirs carries)
      (subst⁻¹ (λ (t : List ℕ). Carries format t theirs) (carries_kept format text theirs carries) carries)

  pub comparable : length theirs < countable → Comparable theirs (data_of format text)
  comparable few = record {
    few = few;
    no-shorter = no_longer;
    no_front = λ rest is.
        none-behind format text (data_of format text) rest (carries-again format text theirs carries) (subst (Carries format text) is carries);
  }

-- ---- the data of sections, in one piece

module _ {most : ℕ} {format : Format} {n : ℕ} {came text : List ℕ} (f : Fits most format n came text) (piece : List ℕ) (is : piece ≡ joined n came) where
  pub may-be-judged : (ours : ℕ) → most ≤ 16000 → most ≤ ours → MayBeJudged format piece text ours
  may-be-judged ours few bytes =
      let long : length piece ≡ n = ap length is ∙ joined_length n came f.whole in
      record {
        few = omega (arith, long, f.few);
        carries = subst⁻¹ (Carries format text) is f.carries;
        room = omega (arith, long, f.few);
      }

  pub judged-joined : (j : Judgement) → Against piece (data_of format text) j → Against (joined n came) (data_of format text) j
  judged-joined j = subst (λ (l : List ℕ). Against l (data_of format text) j) is
