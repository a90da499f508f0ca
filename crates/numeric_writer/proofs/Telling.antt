-- Whether a character has a code where it stands, as the code tells it.
-- Assumes nothing.
use mathlib.Core.Path.{◌≡◌, refl, sym, ap, subst⁻¹, ◌∙◌}
use mathlib.Core.Bool.{Bool, false}
use mathlib.Core.Logic.{by_cases}
use mathlib.Core.List.{List, [], ◌∷◌}
use Prim.Native.Nat.{ℕ, ◌<◌}
use native.Mathlib.Decide.{ℕ_discrete}
use lib.Dec.{eqb}
use borrow.Author.Tests.{ne_eqb}
use Rattle.bits.specs.First.{first}
use Rattle.bits.specs.Numbers.{numbers}
use Rattle.codes.specs.Chain.{codes}
use Rattle.codes.specs.LineEnds.{ended}
use Rattle.codes.specs.Lookup.{same, found, saying, meaning}
use Rattle.codes.proofs.ByteTests.{same-below}
use Rattle.codes.proofs.EveryElement.{every}
use Rattle.numeric.specs.Table.{characters}
use Rattle.numeric.specs.Translation.{sent, itself, specials, translation}
use Rattle.numeric.specs.Writer.{own, clashes}
use Rattle.numeric_writer.specs.Steps.Sending.{stands, of_signs}
use Rattle.numeric_writer.proofs.Tests.{table_test, clash_test}

-- ---- a character of the tables

stands-told : (c : ℕ) → c < 256 → table_test (of_signs c) c ≡ stands c
unfolding translation itself specials sent characters numbers ended saying same found every first
stands-told = same-below 256 (λ (c : ℕ). table_test (of_signs c) c) stands tt

pub table-told : (c : ℕ) {signs : Bool} → c < 256 → signs ≡ of_signs c → table_test signs c ≡ stands c
table-told c h e = ap (λ (signs : Bool). table_test signs c) e ∙ stands-told c h

-- ---- a sequence of Table 5 with the character before

abbrev clash : ℕ → ℕ → Bool
clash before c = clashes before (codes (own before c))

after_plus : (c : ℕ) → c < 256 → clash_test 43 (of_signs c) c ≡ clash 43 c
unfolding translation itself specials sent characters numbers ended saying meaning same found own codes clashes every first
after_plus = same-below 256 (λ (c : ℕ). clash_test 43 (of_signs c) c) (clash 43) tt

after_minus : (c : ℕ) → c < 256 → clash_test 45 (of_signs c) c ≡ clash 45 c
unfolding translation itself specials sent characters numbers ended saying meaning same found own codes clashes every first
after_minus = same-below 256 (λ (c : ℕ). clash_test 45 (of_signs c) c) (clash 45) tt

after-point : (c : ℕ) → c < 256 → clash_test 46 (of_signs c) c ≡ clash 46 c
unfolding translation itself specials sent characters numbers ended saying meaning same found own codes clashes every first
after-point = same-below 256 (λ (c : ℕ). clash_test 46 (of_signs c) c) (clash 46) tt

-- no other character begins a sequence
after-other : (before : ℕ) (base : List ℕ) → eqb 43 before ≡ false → eqb 45 before ≡ false → eqb 46 before ≡ false → clashes before base ≡ false
unfolding clashes specials sent meaning same found first
after-other before [] p m d = refl
after-other before (b ∷ base) p m d = rw (p, m, d)

told : (before c : ℕ) → c < 256 → clash_test before (of_signs c) c ≡ clash before c
told before c h =
    by_cases (ℕ_discrete before 43) (λ e. subst⁻¹ (λ (b : ℕ). clash_test b (of_signs c) c ≡ clash b c) e (after_plus c h))
    (λ p. by_cases (ℕ_discrete before 45) (λ e. subst⁻¹ (λ (b : ℕ). clash_test b (of_signs c) c ≡ clash b c) e (after_minus c h))
    (λ m. by_cases (ℕ_discrete before 46) (λ e. subst⁻¹ (λ (b : ℕ). clash_test b (of_signs c) c ≡ clash b c) e (after-point c h))
    (λ d. neither p m d)))
  where
    neither : (before ≡ 43 → ⊥) → (before ≡ 45 → ⊥) → (before ≡ 46 → ⊥) → clash_test before (of_signs c) c ≡ clash before c
    neither p m d =
        let test : clash_test before (of_signs c) c ≡ false = rw (ne_eqb before 43 p, ne_eqb before 45 m, ne_eqb before 46 d) in
        test
        ∙ sym
        (after-other before (codes (own before c)) (ne_eqb 43 before (λ e. p (sym e))) (ne_eqb 45 before (λ e. m (sym e)))
        (ne_eqb 46 before (λ e. d (sym e))))

pub clash-told : (before c : ℕ) {signs : Bool} → c < 256 → signs ≡ of_signs c → clash_test before signs c ≡ clash before c
clash-told before c h e = ap (λ (signs : Bool). clash_test before signs c) e ∙ told before c h
