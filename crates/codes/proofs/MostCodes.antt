-- Data with as many codes as its bytes can have: the shortest code, over and over.
-- Assumes nothing.
use mathlib.Core.Path.{◌≡◌, refl, ap, subst⁻¹, ◌∙◌}
use mathlib.Core.List.{List}
use Prim.Native.Nat.{ℕ, zero, suc, ◌+◌, ◌*◌, ◌/◌, ◌≤◌}
use native.Mathlib.Nat.{suc-mul}
use native.Mathlib.Omega.{arith}
use lib.Dec.{T}
use lib.ListN.{length, replicate, length-append, length-replicate}
use Rattle.bits.specs.Row.{bits}
use Rattle.codes.specs.Chain.{Entry, Scheme, In, state_after, Row, codes, texts}
use Rattle.codes.specs.Pack.{gap, written}
use Rattle.codes.specs.Steps.Measure.{BuildsIn}
use Rattle.codes.proofs.BitsInBytes.{binary, row-binary, length-written, written-built}
use Rattle.codes.proofs.EveryElement.{every}

module _ (scheme : Scheme) (all-bits : (m : ℕ) → T (every binary (scheme.table m))) (e : Entry) (legal : In e (scheme.table 0)) (mute : e.announces ≡ 0) where
  stays : state_after 0 e ≡ 0
  unfolding state_after
  stays = omega (arith, mute)

  again : (k : ℕ) → Row scheme 0 (replicate k e) 0
  again zero = refl
  again (suc k) = (legal, subst⁻¹ (λ (m : ℕ). Row scheme m (replicate k e) 0) stays (again k))

  all-long : (width : ℕ) → width ≡ length e.code → (k : ℕ) → length (codes (replicate k e)) ≡ k * width
  unfolding codes
  all-long width long zero = omega arith
  all-long width long (suc k) = omega (arith, length-append e.code (codes (replicate k e)), all-long width long k, suc-mul k width)

  -- k of them fill n bytes, and leave no more unused than may be
  pub most-codes : (width k n : ℕ) → width ≡ length e.code → (k * width + 7) / 8 ≡ n → gap (k * width) ≤ scheme.unused
      → (text carried : List ℕ) × (length carried ≡ n) × BuildsIn scheme 0 (bits carried) text k
  unfolding written-built
  most-codes width k n long whole few =
      let row = replicate k e in
      let size = all-long width long k in (
        texts row,
        written row,
        length-written row ∙ ap (λ (x : ℕ). (x + 7) / 8) size ∙ whole,
        (
          written-built row (subst⁻¹ (λ (x : ℕ). gap x ≤ scheme.unused) size few) (again k) (row-binary scheme all-bits 0 0 row (again k)),
          length-replicate k e,
        ),
      )
