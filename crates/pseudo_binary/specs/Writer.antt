-- What our writer builds of a text in Compact Pseudo Binary: `written (ours text)`.
-- Assumes nothing.
use Rattle.std.specs.Prelude.{◌≡◌, true, cond, List, [], ◌∷◌, ◌++◌, map, ℕ, zero, suc, pred, eqb}
use Rattle.codes.specs.Chain.{Entry}
use Rattle.pseudo_binary.specs.Table.{QUESTION_MARK, Kind, values, spaces, slashes, is_of, value_of, indicator, six}

-- the kind of a character that has a code
unfoldable pub kind : ℕ → Kind
kind c = cond (is_of spaces c) spaces (cond (is_of slashes c) slashes values)

-- how many characters at the front of the text are of kind k, counted up to n
unfoldable pub run : Kind → ℕ → List ℕ → ℕ
run k zero text = 0
run k (suc n) [] = 0
run k (suc n) (c ∷ text) = let counted = suc (run k n text) in cond (is_of k c) counted 0

-- what a character takes besides the indicator that counts it: a value its six bits, a space or a slash nothing
unfoldable pub besides : Kind → ℕ → List Entry
besides values c = six (value_of c) ∷ []
besides spaces c = []
besides slashes c = []

-- the most that one indicator of ours counts (RULES, Formats)
unfoldable pub our_most : Kind → ℕ
our_most values = 128
our_most spaces = 16
our_most slashes = 16

-- the entries for a text whose first n characters are counted already. A character that is not gets an indicator, which counts it and those of its
-- kind right after it, up to our most
unfoldable pub ours_after : ℕ → List ℕ → List Entry
ours_after n [] = []
ours_after zero (c ∷ text) =
    let k = kind c in
    let more = run k (pred (our_most k)) text in
    indicator k more ∷ (besides k c ++ ours_after more text)
ours_after (suc n) (c ∷ text) = besides (kind c) c ++ ours_after n text

-- runs of one kind, each in the fullest indicators, the remainder last
unfoldable pub ours : List ℕ → List Entry
ours text = ours_after 0 text

-- what a character comes back as: 127 as the question mark, which has the same value
unfoldable pub back_as : ℕ → ℕ
back_as c = cond (eqb c 127) QUESTION_MARK c

-- what a text comes back as: each 127 replaced by the question mark
unfoldable pub comes_back : List ℕ → List ℕ
comes_back text = map back_as text

-- each character is of kind k
abbrev pub Alike : Kind → List ℕ → Type 0
Alike k [] = Unit {0}
Alike k (c ∷ r) = (is_of k c ≡ true) × Alike k r
