-- What our writer builds of a text in Compact Full ASCII: `written (ours text)`.
-- Assumes nothing.
use Rattle.std.specs.Prelude.{◌≡◌, Bool, cond, ◌&&◌, ◌||◌, List, [], ◌∷◌, ℕ, leb, ltb, eqb, length}
use Rattle.codes.specs.Chain.{Entry}
use Rattle.codes.specs.Coded.{alone, CodedBelow}
use Rattle.full_ascii.specs.Table.{HT, LF, CR, six, seven, special, pair}

-- the character has a code
unfoldable pub coded : ℕ → Bool
coded c = eqb c HT || (eqb c LF || (eqb c CR || (leb 32 c && leb c 126)))

-- each character of the text has a code
abbrev pub AllCoded : List ℕ → Type 0
AllCoded text = CodedBelow (alone coded) text (length text)

-- the code of a character by itself, where it has one
unfoldable pub own : ℕ → Entry
own c =
    cond (eqb c HT) (special 0 (HT ∷ []))
    (cond (eqb c LF) (special 2 (LF ∷ [])) (cond (eqb c CR) (special 1 (CR ∷ [])) (cond (ltb c 64) (six c) (seven c))))

-- the pair code for each CR that has LF next (RULES, Formats), and else each character's own
unfoldable pub ours : List ℕ → List Entry
ours [] = []
ours (c ∷ []) = own c ∷ []
ours (c ∷ d ∷ text) =
    let together = pair ∷ ours text in
    let single = own c ∷ ours (d ∷ text) in
    cond (eqb c CR && eqb d LF) together single

-- what a text comes back as: itself
abbrev pub comes_back : List ℕ → List ℕ
comes_back text = text

-- the text begins with a line end, CR and then LF
abbrev pub LineEnd : List ℕ → Type 0
LineEnd text = (rest : List ℕ) × (text ≡ CR ∷ LF ∷ rest)
