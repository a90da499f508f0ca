-- The checksums of all sections, as a function judges them: the first section whose is wrong, or none.
-- Assumes nothing.
use Rattle.std.specs.Prelude.{List, ℕ, Option, Some, None}
use Rattle.sections.specs.Sections.{RightSums, FirstWrong}

abbrev pub Judges : ℕ → List ℕ → Option ℕ → Type 0
Judges n came None = RightSums n came
Judges n came (Some k) = FirstWrong n came k
