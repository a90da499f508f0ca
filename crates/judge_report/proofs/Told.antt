-- The line of an answer, number by number, so that a wrong one is refused where it stands.
-- Assumes nothing.
use mathlib.Core.Bool.{false}
use mathlib.Core.List.{List, [], ◌∷◌}
use mathlib.Core.Path.{◌≡◌, refl, ap, subst₂}
use Prim.Native.Nat.{ℕ}
use Rattle.judge.specs.Judge.{JudgeAnswer, Judges}
use Rattle.lines.specs.Line.{decimals, line}
use Rattle.terms.specs.Terms.{most_at}
use Rattle.judge_report.specs.Line.{line_of}
use Rattle.judge_report.specs.Report.{Prints}

-- the numbers are what they are to be
pub told : (word : List ℕ) {numbers numbers' : List ℕ} → numbers ≡ numbers' → line word (decimals numbers) ≡ line word (decimals numbers')
told word = ap (λ (l : List ℕ). line word (decimals l))

pub one_number : {n m : ℕ} → n ≡ m → n ∷ [] ≡ m ∷ []
one_number = ap (λ (n : ℕ). n ∷ [])

pub two-numbers : {a b n m : ℕ} → a ≡ b → n ≡ m → a ∷ n ∷ [] ≡ b ∷ m ∷ []
two-numbers e f = λ i. e i ∷ f i ∷ []

-- a packet's line
pub reported : {packet : List ℕ} (answer : JudgeAnswer) (mend most : ℕ) → Judges (record { mend = mend; most = most }) packet answer → mend ≡ 1
    → most ≡ most_at false → Prints packet (line_of answer)
reported {packet} answer mend most judges named at-300 =
    record {
      answer = answer;
      judges = subst₂ (λ (m n : ℕ). Judges (record { mend = m; most = n }) packet answer) named at-300 judges;
      is = refl;
    }
