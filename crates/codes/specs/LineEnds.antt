-- Line ends, where a table has one code for them (001, 4.3 and 4.4: cr/lf; RULES, Formats). A line end is CR LF, or CR alone, or LF alone; such a table
-- cannot tell them apart, and each comes back as CR LF.
-- Assumes nothing.
use Rattle.std.specs.Prelude.{cond, List, [], ◌∷◌, ◌++◌, ℕ, eqb}

abbrev pub LF : ℕ
LF = 10

abbrev pub CR : ℕ
CR = 13

-- what each character of a text gives, told by the one before it and by itself, in a row
unfoldable pub each_after : {A : Type 0} → (ℕ → ℕ → List A) → ℕ → List ℕ → List A
each_after gives before [] = []
each_after gives before (c ∷ text) = gives before c ++ each_after gives c text

-- what a character comes back as: CR is a line end; LF is one unless CR stands right before it, whose line end it is a part of
unfoldable pub ended : ℕ → ℕ → List ℕ
ended before c = cond (eqb c CR) (CR ∷ LF ∷ []) (cond (eqb c LF) (cond (eqb before CR) [] (CR ∷ LF ∷ [])) (c ∷ []))

-- the text with CR LF for each line end. No character stands before the first: 0 stands for it
unfoldable pub line_ends : List ℕ → List ℕ
line_ends = each_after ended 0
