-- Whatever character stands for value 63 (127, say, by which each value is 64 less than its character), the same data is read, as many characters of it,
-- and the same data is malformed, at the same bit.
-- Assumes nothing.
use mathlib.Core.Path.{◌≡◌, refl, sym, ap, ◌∙◌}
use mathlib.Core.Bool.{Bool, true, false, cond}
use mathlib.Core.List.{List, [], ◌∷◌, ◌++◌, map}
use mathlib.Core.Logic.{◌↔◌}
use Prim.Native.Nat.{ℕ, zero, suc, ◌+◌}
use lib.Dec.{eqb}
use lib.ListN.{length, length-map}
use borrow.Author.Tests.{eqb-true}
use Rattle.bits.specs.Numbers.{numbers}
use Rattle.codes.specs.Chain.{Entry, Scheme, Built, Malformed}
use Rattle.codes.specs.Pack.{low}
use Rattle.codes.proofs.Renamed.{renamed, renamed-built, built-renamed, renamed-malformed}
use Rattle.pseudo_binary.specs.Table.{QUESTION_MARK, values, spaces, slashes, character_of, indicator, most, indicators, six, tables, scheme}

module _ (x : ℕ) where
  -- the tables as they are, but for the character of value 63
  unfoldable pub six_with : ℕ → Entry
  six_with v = record { code = low 6 v; says = cond (eqb v 63) x (64 + v) ∷ []; announces = 0 }

  unfoldable pub tables_with : ℕ → List Entry
  tables_with zero = indicators values ++ (indicators spaces ++ indicators slashes)
  tables_with (suc m) = map six_with (numbers 0 64)

  abbrev pub scheme_with : Scheme
  scheme_with = record { table = tables_with; unused = 7 }

  -- that character in the place of the question mark
  abbrev pub in_place : ℕ → ℕ
  in_place c = cond (eqb c QUESTION_MARK) x c

  tables-renamed : (m : ℕ) → tables_with m ≡ map (renamed in_place) (tables m)
  unfolding tables_with six_with tables indicators indicator most six character_of numbers
  tables-renamed zero = refl
  tables-renamed (suc m) = refl

  pub read_alike : (t sent : List ℕ) → Built scheme t sent → Built scheme_with (map in_place t) sent
  read_alike = renamed-built in_place scheme scheme_with tables-renamed refl

  pub alike_read : (u sent : List ℕ) → Built scheme_with u sent → (t : List ℕ) × Built scheme t sent × (length u ≡ length t)
  alike_read u sent b =
      let r = built-renamed in_place scheme scheme_with tables-renamed refl u sent b in
      (r.0, r.1, ap length r.2 ∙ length-map r.0 in_place)

  pub malformed-alike : (sent : List ℕ) (i : ℕ) → Malformed scheme sent i ↔ Malformed scheme_with sent i
  malformed-alike = renamed-malformed in_place scheme scheme_with tables-renamed refl

-- with 127 a value reads as 64 plus it, whichever it is
pub with-delete : (v : ℕ) → (six_with 127 v).says ≡ (64 + v) ∷ []
unfolding six_with
with-delete v = pick (eqb v 63) refl
  where
    pick : (b : Bool) → eqb v 63 ≡ b → cond b 127 (64 + v) ∷ [] ≡ (64 + v) ∷ []
    pick true e = ap (λ (w : ℕ). (64 + w) ∷ []) (sym (eqb-true v 63 e))
    pick false e = refl
