-- Two different valid headers differ in at least five bits. The remainder goes through sums, so the bits in which two valid headers differ leave
-- nothing, and one computed walk over the 31 remainders of single bits shows that no one to four bits do.
-- Assumes nothing.
use mathlib.Core.Path.{◌≡◌, sym, ap, ap₂, ◌∙◌, subst}
use mathlib.Core.Bool.{Bool, true, not, ◌&&◌}
use mathlib.Core.List.{List, [], ◌∷◌}
use mathlib.Core.Logic.{◌⊎◌, inl, inr}
use Prim.Native.Nat.{ℕ, zero, suc, ◌+◌, ◌%◌, ◌^◌, ◌≤◌, ◌<◌}
use native.Mathlib.Nat.{mod-lt, one-mul}
use native.Mathlib.Decide.{dec_le}
use native.Mathlib.Omega.{arith}
use lib.Arith.{lt-one}
use lib.Bits.{bit_xor, xor_shifted, xor_mod, xor_comm, xor_lt}
use lib.Count.{ones_in}
use lib.Dec.{T, T_not, eqb}
use lib.Pow.{pow_pos}
use Rattle.bits.specs.Word.{differences}
use Rattle.bits.proofs.Said.{and_left, and_right}
use Rattle.bits.proofs.Xor.{xor-undo, xor-zero}
use Rattle.bits.proofs.Ones.{ones_low, no_ones, Top, top, without-top, with-top}
use Rattle.header.specs.Check.{generator, remainder}
use Rattle.header.specs.Valid.{Valid}
use Rattle.header.proofs.Made.{valid-low}
use Rattle.distance.specs.Distance.{distance}
use Rattle.distance.specs.Steps.Left.{left}
use Rattle.distance.proofs.Left.{left-nothing, left-sum, valid-left}
use Rattle.distance.proofs.Words.{low_near}

-- ---- the walk

-- what each single bit below 2^k leaves, the highest first
unfoldable pub columns : ℕ → List ℕ
columns zero = []
columns (suc k) = left (2 ^ k) ∷ columns k

-- no choice of at most so many columns adds up to s
absent : ℕ → List ℕ → ℕ → Bool
absent w [] s = not (eqb s 0)
absent zero (c ∷ cs) s = absent zero cs s
absent (suc w) (c ∷ cs) s = absent (suc w) cs s && absent w cs (bit_xor s c)

-- no choice of at least one and at most so many columns adds up to nothing
alone : ℕ → List ℕ → Bool
alone w [] = true
alone zero (c ∷ cs) = true
alone (suc w) (c ∷ cs) = alone (suc w) cs && absent w cs c

four-alone : T (alone 4 (columns 31))
unfolding alone absent columns left remainder generator
four-alone = tt

-- ---- what the walk says of numbers

-- a number of k + 1 bits is one of k bits, or bit k and a number of k bits
record Lower (k e : ℕ) : Type 0 where
  small : e < 2 ^ k
  ones : ones_in (suc k) e ≡ ones_in k e

record Upper (k e : ℕ) : Type 0 where
  rest : ℕ
  small : rest < 2 ^ k
  leaves : left e ≡ bit_xor (left (2 ^ k)) (left rest)
  ones : ones_in (suc k) e ≡ suc (ones_in k rest)

halves : (k e : ℕ) → e < 2 ^ suc k → Lower k e ⊎ Upper k e
halves k e h = pick (top k e h)
  where
    pick : Top k e → Lower k e ⊎ Upper k e
    pick (inl low) = inl (record { small = low; ones = without-top k e low })
    pick (inr (rest, low, whole)) =
        inr
        (record {
          rest = rest;
          small = low;
          leaves =
              ap left
              (whole ∙ ap (λ (n : ℕ). n + rest) (sym (one-mul (2 ^ k))) ∙ sym (xor_shifted 1 k rest low)
              ∙ ap (λ (n : ℕ). bit_xor n rest) (one-mul (2 ^ k)))
              ∙ left-sum (2 ^ k) rest;
          ones = ap (ones_in (suc k)) whole ∙ with-top k rest low;
        })

-- ---- the walk is right, one column after the other

abbrev Absent : ℕ → Type 0
Absent k = (w s e : ℕ) → T (absent w (columns k) s) → e < 2 ^ k → ones_in k e ≤ w → left e ≡ s → ⊥

absent-step : (k : ℕ) → Absent k → (w s e : ℕ) → T (absent w (columns (suc k)) s) → ones_in (suc k) e ≤ w → left e ≡ s → Lower k e ⊎ Upper k e → ⊥
unfolding absent columns
absent-step k law zero s e t o l (inl u) = law zero s e t u.small (omega (arith, u.ones)) l
absent-step k law zero s e t o l (inr u) = omega (arith, u.ones)
absent-step k law (suc w) s e t o l (inl u) =
    law (suc w) s e (and_left (absent (suc w) (columns k) s) (absent w (columns k) (bit_xor s (left (2 ^ k)))) t) u.small (omega (arith, u.ones)) l
absent-step k law (suc w) s e t o l (inr u) =
    law w (bit_xor s (left (2 ^ k))) u.rest (and_right (absent (suc w) (columns k) s) (absent w (columns k) (bit_xor s (left (2 ^ k)))) t) u.small
    (omega (arith, u.ones))
    (sym (xor-undo (left (2 ^ k)) (left u.rest)) ∙ ap (bit_xor (left (2 ^ k))) (sym u.leaves ∙ l) ∙ xor_comm (left (2 ^ k)) s)

absent-law : (k : ℕ) → Absent k
unfolding absent columns
absent-law zero w s e t h o l =
    T_not (eqb s 0) t (subst (λ (n : ℕ). T (eqb n 0)) (sym (ap left (lt-one h) ∙ left-nothing) ∙ l) tt)
absent-law (suc k) w s e t h o l = absent-step k (absent-law k) w s e t o l (halves k e h)

abbrev Alone : ℕ → Type 0
Alone k = (w e : ℕ) → T (alone w (columns k)) → e < 2 ^ k → ones_in k e ≤ w → left e ≡ 0 → e ≡ 0

alone-step : (k : ℕ) → Alone k → (w e : ℕ) → T (alone w (columns (suc k))) → e < 2 ^ suc k → ones_in (suc k) e ≤ w → left e ≡ 0 → Lower k e ⊎ Upper k e → e ≡ 0
unfolding alone columns
alone-step k law zero e t h o l b = no_ones (suc k) e h (omega arith)
alone-step k law (suc w) e t h o l (inl u) =
    law (suc w) e (and_left (alone (suc w) (columns k)) (absent w (columns k) (left (2 ^ k))) t) u.small (omega (arith, u.ones)) l
alone-step k law (suc w) e t h o l (inr u) =
    absurd
    (absent-law k w (left (2 ^ k)) u.rest (and_right (alone (suc w) (columns k)) (absent w (columns k) (left (2 ^ k))) t) u.small
    (omega (arith, u.ones)) (sym (xor-zero (left (2 ^ k)) (left u.rest) (sym u.leaves ∙ l))))

alone-law : (k : ℕ) → Alone k
alone-law zero w e t h o l = lt-one h
alone-law (suc k) w e t h o l = alone-step k (alone-law k) w e t h o l (halves k e h)

-- no one to four of the 31 bits leave nothing
pub four-leave : (e : ℕ) → e < 2 ^ 31 → ones_in 31 e ≤ 4 → left e ≡ 0 → e ≡ 0
four-leave e h few l = alone-law 31 4 e four-alone h few l

-- ---- two valid headers

-- at most four of the 31 bits apart, two valid headers are the same
pub low-apart : (v w : ℕ) → Valid v → Valid w → ones_in 31 (bit_xor v w) ≤ 4 → v ≡ w
low-apart v w hv hw few = valid-low v w hv hw (xor-zero (v % 2 ^ 31) (w % 2 ^ 31) none)
  where
    parts : bit_xor v w % 2 ^ 31 ≡ bit_xor (v % 2 ^ 31) (w % 2 ^ 31)
    parts = xor_mod v w 31

    none : bit_xor (v % 2 ^ 31) (w % 2 ^ 31) ≡ 0
    none =
        four-leave (bit_xor (v % 2 ^ 31) (w % 2 ^ 31))
        (xor_lt 31 (v % 2 ^ 31) (w % 2 ^ 31) (mod-lt v (pow_pos 31)) (mod-lt w (pow_pos 31)))
        (omega (arith, ap (ones_in 31) parts, ones_low 31 (bit_xor v w)))
        (left-sum (v % 2 ^ 31) (w % 2 ^ 31) ∙ ap₂ bit_xor (valid-left v hv) (valid-left w hw))

-- at most four bits apart, two valid headers are the same
pub near_same : (v w : ℕ) → Valid v → Valid w → distance v w ≤ 4 → v ≡ w
unfolding differences
near_same v w hv hw few = low-apart v w hv hw (omega (arith, few, low_near v w))

-- two different valid headers differ in at least five bits
pub five-apart : (v w : ℕ) → Valid v → Valid w → (v ≡ w → ⊥) → 5 ≤ distance v w
five-apart v w hv hw other = pick (dec_le 5 (distance v w))
  where
    pick : Dec (5 ≤ distance v w) → 5 ≤ distance v w
    pick (yes h) = h
    pick (no h) = absurd (other (near_same v w hv hw (omega arith)))
