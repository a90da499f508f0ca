-- How many bits the code of a character has.
-- Assumes nothing.
use mathlib.Core.Path.{◌≡◌, ap, ◌∙◌}
use mathlib.Core.Bool.{Bool, true, false, cond, ◌&&◌, ◌||◌}
use mathlib.Core.List.{List}
use Prim.Native.Nat.{ℕ, ◌<◌}
use lib.Dec.{T, leb, eqb}
use lib.ListN.{length}
use Rattle.codes.specs.Chain.{Entry, codes}
use Rattle.shef.specs.Writer.{coded}
use Rattle.shef_writer.specs.Steps.Sending.{bits_for}
use Rattle.shef_writer.proofs.Telling.{own-none, own_same, bits-told}

-- none, six or five for a character
module _ (before c : ℕ) where
  pub bits_none : (eqb before 13 && eqb c 10) ≡ true → bits_for before c ≡ 0
  bits_none e = ap length (own-none before c e)

  bits-some : c < 256 → T (coded c) → (eqb before 13 && eqb c 10) ≡ false
      → bits_for before c ≡ cond (leb 58 c || (eqb c 35 || (eqb c 13 || eqb c 10))) 6 5
  bits-some h t e = ap (λ (es : List Entry). length (codes es)) (own_same before c e) ∙ bits-told c h t

  pub bits-six : c < 256 → T (coded c) → (eqb before 13 && eqb c 10) ≡ false → (leb 58 c || (eqb c 35 || (eqb c 13 || eqb c 10))) ≡ true
      → bits_for before c ≡ 6
  bits-six h t e x = bits-some h t e ∙ ap (λ (b : Bool). cond b 6 5) x

  pub bits-five : c < 256 → T (coded c) → (eqb before 13 && eqb c 10) ≡ false → (leb 58 c || (eqb c 35 || (eqb c 13 || eqb c 10))) ≡ false
      → bits_for before c ≡ 5
  bits-five h t e x = bits-some h t e ∙ ap (λ (b : Bool). cond b 6 5) x
