-- How far the bits of two rows that say the same can lie apart: where characters have a weight, so that no entry has more bits than what it says weighs, and
-- none says more than so many times its bits. Values that an entry announces are weighed where they are said: till then they are ahead of it, or owed.
-- Assumes nothing.
use mathlib.Core.Path.{◌≡◌, ap, ◌∙◌}
use mathlib.Core.List.{List, [], ◌∷◌, ◌++◌}
use Prim.Native.Nat.{ℕ, ◌+◌, ◌*◌, ◌≤◌}
use native.Mathlib.Nat.{mul-add}
use native.Mathlib.Omega.{arith}
use lib.ListN.{length, length-append}
use Rattle.codes.specs.Chain.{Entry, Scheme, In, state_after, Row, codes, texts}

-- what a text weighs
unfoldable pub weight : (ℕ → ℕ) → List ℕ → ℕ
weight weigh [] = 0
weight weigh (c ∷ text) = weigh c + weight weigh text

pub weight-append : (weigh : ℕ → ℕ) (t u : List ℕ) → weight weigh (t ++ u) ≡ weight weigh t + weight weigh u
unfolding weight
weight-append weigh [] u = omega arith
weight-append weigh (c ∷ t) u = omega (arith, weight-append weigh t u)

pub record Weighing (scheme : Scheme) (weigh ahead owed : ℕ → ℕ) (times : ℕ) : Type 0 where
  pub heavy : (m : ℕ) (e : Entry) → In e (scheme.table m) → length e.code + ahead m ≤ weight weigh e.says + ahead (state_after m e)
  pub light : (m : ℕ) (e : Entry) → In e (scheme.table m) → weight weigh e.says + owed (state_after m e) ≤ times * length e.code + owed m

module _ {scheme : Scheme} {weigh ahead owed : ℕ → ℕ} {times : ℕ} (w : Weighing scheme weigh ahead owed times) where
  row-heavy : (m : ℕ) (es : List Entry) → Row scheme m es 0 → length (codes es) + ahead m ≤ weight weigh (texts es) + ahead 0
  unfolding codes texts weight
  row-heavy m [] r = omega (arith, ap ahead r)
  row-heavy m (e ∷ es) r =
      omega (
        arith,
        w.heavy m e r.0,
        row-heavy (state_after m e) es r.1,
        length-append e.code (codes es),
        weight-append weigh e.says (texts es),
      )

  row-light : (m : ℕ) (es : List Entry) → Row scheme m es 0 → weight weigh (texts es) + owed 0 ≤ times * length (codes es) + owed m
  unfolding codes texts weight
  row-light m [] r = omega (arith, ap owed r)
  row-light m (e ∷ es) r =
      omega (
        arith,
        w.light m e r.0,
        row-light (state_after m e) es r.1,
        ap (λ (n : ℕ). times * n) (length-append e.code (codes es)) ∙ mul-add times (length e.code) (length (codes es)),
        weight-append weigh e.says (texts es),
      )

  -- none has more than so many times the bits of another
  pub times-at-most : (es ds : List Entry) → Row scheme 0 es 0 → Row scheme 0 ds 0 → texts es ≡ texts ds → length (codes es) ≤ times * length (codes ds)
  times-at-most es ds r q same = omega (arith, row-heavy 0 es r, row-light 0 ds q, ap (weight weigh) same)
