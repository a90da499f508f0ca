-- A line piece by piece: a word and numbers, then its end.
-- Assumes nothing.
use mathlib.Core.List.{List, [], ◌∷◌, ◌++◌, append_assoc}
use mathlib.Core.Path.{◌≡◌, refl, sym, ap, ◌∙◌, subst}
use Prim.Native.Nat.{ℕ, ◌+◌, ◌*◌, ◌≤◌, ◌<◌}
use native.Mathlib.Omega.{arith}
use lib.ListN.{length, length-append}
use Rattle.codes.specs.Steps.Laid.{Fronted}
use Rattle.lines.specs.Line.{decimal, decimals, spaced, line, refused}
use Rattle.lines.specs.Steps.Put.{PutsRow}
use Rattle.lines.proofs.Decimal.{spaced-within}
use Rattle.lines.proofs.Putting.{Still, still-all, still-next, front}

-- another row that is the same
pub front_same : {row row' out out' : List ℕ} {r : ℕ} → Fronted row out out' r → row ≡ row' → Fronted row' out out' r
front_same {row} {row'} {out} {out'} {r} p e = subst (λ (l : List ℕ). Fronted l out out' r) e p

pub spaced-append : (a b : List (List ℕ)) → spaced (a ++ b) ≡ spaced a ++ spaced b
unfolding spaced
spaced-append [] b = refl
spaced-append (field ∷ a) b =
    ap (λ (row : List ℕ). (32 ∷ field) ++ row) (spaced-append a b) ∙ sym (append_assoc (32 ∷ field) (spaced a) (spaced b))

-- where the end of the line is still to be put, there is room for it, and with it the line stands at the front
module _ {row entry last : List ℕ} {end : ℕ} (l : Still row entry 0 (10 ∷ []) last end) where
  pub end-held : end < length last
  end-held = omega (arith, l.held)

  pub line-put : {exit : List ℕ} {r : ℕ} → PutsRow (10 ∷ []) last exit end r → Fronted row entry exit r
  line-put {exit} {r} n = front (l.rest exit r n)

-- ---- a word and numbers

module _ (word numbers : List ℕ) where
  line-pieces : line word (decimals numbers) ≡ (word ++ spaced (decimals numbers)) ++ (10 ∷ [])
  unfolding line
  line-pieces = sym (append_assoc word (spaced (decimals numbers)) (10 ∷ []))

  line-long : length (line word (decimals numbers)) ≡ length word + length (spaced (decimals numbers)) + 1
  line-long =
      omega (
        arith,
        ap length line-pieces,
        length-append (word ++ spaced (decimals numbers)) (10 ∷ []),
        length-append word (spaced (decimals numbers)),
      )

  -- at most a space and twenty digits for each number
  pub line-within : length (line word (decimals numbers)) ≤ length word + 21 * length numbers + 1
  line-within = omega (arith, line-long, spaced-within numbers)

  module _ (entry : List ℕ) (held : length (line word (decimals numbers)) ≤ length entry) where
    pub word_held : length word + length (spaced (decimals numbers)) ≤ length entry
    word_held = omega (arith, line-long)

    pub behind-numbers : (last : List ℕ) (end : ℕ) → PutsRow (word ++ spaced (decimals numbers)) entry last 0 end
        → Still (line word (decimals numbers)) entry 0 (10 ∷ []) last end
    behind-numbers last end =
        still-next (word ++ spaced (decimals numbers)) (10 ∷ [])
        (subst (λ (left : List ℕ). Still (line word (decimals numbers)) entry 0 left entry 0) line-pieces
        (still-all (line word (decimals numbers)) entry 0 (omega arith)))

-- ---- a refusal

pub refused-is : (number : ℕ) → line refused (decimals (number ∷ [])) ≡ line refused (decimal number ∷ [])
unfolding decimals
refused-is number = refl
