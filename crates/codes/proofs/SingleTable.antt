-- Schemes with one table, in which nothing is announced: the state is 0 throughout.
-- Assumes nothing.
use mathlib.Core.Path.{◌≡◌, subst, subst⁻¹}
use mathlib.Core.Bool.{Bool}
use mathlib.Core.List.{List, ◌∷◌, ◌++◌}
use Prim.Native.Nat.{ℕ, ◌+◌}
use native.Mathlib.Omega.{arith}
use lib.Dec.{T, eqb, eqb→eq}
use Rattle.codes.specs.Chain.{Entry, single, In, state_after, Row, Builds}
use Rattle.codes.specs.Steps.Passed.{Passed}
use Rattle.codes.proofs.EveryElement.{every, every-at}
use Rattle.codes.proofs.PassedEntries.{passed-more}
use Rattle.codes.proofs.OneReading.{builds-more}

unfoldable pub mute : Entry → Bool
mute e = eqb e.announces 0

module _ {table : List Entry} (mutes : T (every mute table)) where
  stays : {e : Entry} → In e table → state_after 0 e ≡ 0
  unfolding state_after mute
  stays {e} h = omega (arith, eqb→eq e.announces 0 (every-at mute table mutes e h))

  module _ (unused : ℕ) where
    pub row_one : {e : Entry} (es : List Entry) → In e table → Row (single table unused) 0 es 0 → Row (single table unused) 0 (e ∷ es) 0
    row_one es h r = (h, subst⁻¹ (λ (n : ℕ). Row (single table unused) n es 0) (stays h) r)

    pub builds-one : {e : Entry} {bs text : List ℕ} → In e table → Builds (single table unused) 0 bs text
        → Builds (single table unused) 0 (e.code ++ bs) (e.says ++ text)
    builds-one {e} {bs} {text} h r = builds-more h (subst⁻¹ (λ (n : ℕ). Builds (single table unused) n bs text) (stays h) r)

    pub passed-one : {bs said : List ℕ} {k : ℕ} (rest later : List ℕ) → Passed (single table unused) bs 0 rest said k → (e : Entry) → In e table
        → rest ≡ e.code ++ later → Passed (single table unused) bs 0 later (said ++ e.says) (k + 1)
    passed-one {bs} {said} {k} rest later p e h x =
        subst (λ (n : ℕ). Passed (single table unused) bs n later (said ++ e.says) (k + 1)) (stays h) (passed-more rest later p e h x)
