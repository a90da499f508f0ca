-- Tests in turn, first match answers (RULES, Refusals): over the refusals of any entry point and what they are told as.
-- Assumes nothing.
use Rattle.std.specs.Prelude.{cond, List, [], ◌∷◌, ◌≡◌, ℕ, suc, ◌<◌, eqb}
use Rattle.refusals.specs.Refusals.{Told, number_in}

-- what is said of the refusal that is told so
abbrev pub ToldAs : (Refusal : Type 0) → (Refusal → Told) → (Refusal → Type 0) → Told → Type 0
ToldAs Refusal told Said as-told = (refusal : Refusal) × (told refusal ≡ as-told) × Said refusal

-- the refusal whose condition holds, where no condition of an earlier turn does
pub record FirstMatch (Refusal : Type 0) (told : Refusal → Told) (Fault : Refusal → Type 0) (turn : ℕ → ℕ) (refusal : Refusal) : Type 0 where
  pub fault : Fault refusal
  pub first : (other : Refusal) → turn (number_in (told other)) < turn (number_in (told refusal)) → Fault other → ⊥

-- the turn of a number where tests are made in this order: how many come before it
unfoldable pub turn_in : List ℕ → ℕ → ℕ
turn_in [] number = 0
turn_in (other ∷ order) number = cond (eqb other number) 0 (suc (turn_in order number))

-- the reader's order
abbrev pub reader_order : List ℕ
reader_order = 17 ∷ 1 ∷ 2 ∷ 3 ∷ 4 ∷ 5 ∷ 6 ∷ 7 ∷ 8 ∷ []

abbrev pub reader_turn : ℕ → ℕ
reader_turn = turn_in reader_order

-- the writer's order
abbrev pub writer_order : List ℕ
writer_order = 12 ∷ 10 ∷ 9 ∷ 11 ∷ 8 ∷ []

abbrev pub writer_turn : ℕ → ℕ
writer_turn = turn_in writer_order
