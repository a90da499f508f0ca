-- What an answer of yes or no says: yes says that the statement holds, no that it does not.
-- Assumes nothing.
use Rattle.std.specs.Prelude.{Bool, true, false}

abbrev pub Says : Bool → Type 0 → Type 0
Says true P = P
Says false P = P → ⊥
