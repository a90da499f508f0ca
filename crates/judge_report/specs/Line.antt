-- The line of an answer of judging (RULES, Judging): `ours` and how many bytes more the data has, which is 0; or `departs`, the bit and how many bytes more;
-- or `refused` and the refusal's number, without the number that comes with it. Numbers in decimal, parted by single spaces.
-- Assumes nothing.
use Rattle.std.specs.Prelude.{List, [], ◌∷◌, ℕ, Ok, Err, Option, Some, None}
use Rattle.judge.specs.Judge.{JudgeAnswer}
use Rattle.lines.specs.Line.{decimals, line, refused}
use Rattle.refusals.specs.Refusals.{number_in, examine_told}

-- `ours` and `departs` in ASCII
abbrev pub ours : List ℕ
ours = 111 ∷ 117 ∷ 114 ∷ 115 ∷ []

abbrev pub departs : List ℕ
departs = 100 ∷ 101 ∷ 112 ∷ 97 ∷ 114 ∷ 116 ∷ 115 ∷ []

abbrev pub line_for : Option ℕ → (more : ℕ) → List ℕ
line_for None more = line ours (decimals (more ∷ []))
line_for (Some bit) more = line departs (decimals (bit ∷ more ∷ []))

abbrev pub line_of : JudgeAnswer → List ℕ
line_of (Ok judgement) = line_for judgement.departs_at judgement.more
line_of (Err refusal) = line refused (decimals (number_in (examine_told refusal) ∷ []))
