-- Where no seven ones stand in a row, each code has six or seven bits.
-- Assumes nothing.
use mathlib.Core.Path.{◌≡◌, refl, sym, ap, ap₂, subst⁻¹, ◌∙◌}
use mathlib.Core.Bool.{true}
use mathlib.Core.Logic.{by_cases}
use Prim.Native.Nat.{ℕ, ◌+◌, ◌-◌, ◌*◌, ◌/◌, ◌%◌, ◌^◌, ◌≤◌}
use native.Mathlib.Decide.{dec_le, dec_lt}
use native.Mathlib.Nat.{add_comm, zero-div}
use native.Mathlib.Omega.{arith}
use lib.Bits.{bit_and, and_shr, and_mod}
use lib.Dec.{eqb, lit≤}
use lib.Pow.{shr-shr}
use borrow.Author.Tests.{eqb-true}
use Rattle.codes.specs.Steps.BitBuffer.{Window}
use Rattle.codes.proofs.BitBuffer.{window-whole, window-top, window-short}
use Rattle.codes.proofs.EightBytes.{top-bits}
use Rattle.full_ascii.specs.Table.{table}
use Rattle.full_ascii_reader.specs.Steps.Passing.{Plain}
use Rattle.codes.specs.Steps.Taken.{FirstCode}
use Rattle.codes.specs.declared.Code.{Code}

-- the ones that have another one j places above them
meet : ℕ → ℕ → ℕ
meet j n = bit_and n (n / 2 ^ j)

meet-shr : (j n k : ℕ) → meet j n / 2 ^ k ≡ meet j (n / 2 ^ k)
unfolding meet
meet-shr j n k =
    and_shr n (n / 2 ^ j) k
    ∙ ap (bit_and (n / 2 ^ k)) (shr-shr n j k ∙ ap (λ (i : ℕ). n / 2 ^ i) (add_comm j k) ∙ sym (shr-shr n k j))

-- the lowest of seven ones in a row
sevens : ℕ → ℕ
sevens n = meet 3 (meet 2 (meet 1 n))

sevens-shr : (n k : ℕ) → sevens n / 2 ^ k ≡ sevens (n / 2 ^ k)
unfolding sevens
sevens-shr n k =
    meet-shr 3 (meet 2 (meet 1 n)) k ∙ ap (meet 3) (meet-shr 2 (meet 1 n) k ∙ ap (meet 2) (meet-shr 1 n k))

sevens-low : (n : ℕ) → n % 128 ≡ 127 → sevens n % 2 ≡ 1
unfolding sevens meet
sevens-low n h =
    let two : meet 1 n % 64 ≡ 63 =
    and_mod n (n / 2) 6 ∙ ap₂ bit_and (let e : n % 64 ≡ 63 = omega arith in e) (let e : n / 2 % 64 ≡ 63 = omega arith in e) in
    let four : meet 2 (meet 1 n) % 16 ≡ 15 =
    and_mod (meet 1 n) (meet 1 n / 4) 4
    ∙ ap₂ bit_and (let e : meet 1 n % 16 ≡ 15 = omega (arith, two) in e) (let e : meet 1 n / 4 % 16 ≡ 15 = omega (arith, two) in e) in
    and_mod (meet 2 (meet 1 n)) (meet 2 (meet 1 n) / 8) 1
    ∙ ap₂ bit_and (let e : meet 2 (meet 1 n) % 2 ≡ 1 = omega (arith, four) in e) (let e : meet 2 (meet 1 n) / 8 % 2 ≡ 1 = omega (arith, four) in e)

none-plain : (n : ℕ) → sevens n ≡ 0 → Plain n
none-plain n h k =
    let v : ℕ = n / 2 ^ k in
    let none : sevens v ≡ 0 = sym (sevens-shr n k) ∙ ap (λ (x : ℕ). x / 2 ^ k) h ∙ zero-div (2 ^ k) in
    by_cases (dec_lt (v % 128) 127) (λ l. l)
    (λ l. absurd (let no' : ⊥ = omega (arith, sevens-low v (omega arith), none) in no'))

-- as it is tested
pub plain-tested : (n : ℕ)
    → eqb (bit_and (bit_and (bit_and n (n / 2)) (bit_and n (n / 2) / 4)) (bit_and (bit_and n (n / 2)) (bit_and n (n / 2) / 4) / 8)) 0 ≡ true → Plain n
unfolding sevens meet
plain-tested n h = none-plain n (eqb-true (sevens n) 0 h)

-- seven bits begin the nine of the window
seven_nine : (held left : ℕ) → 8 ≤ left → (w : ℕ) × Window held left w × (w / 4 ≡ held / 2 ^ (left - 7) % 128)
seven_nine held left h = by_cases (dec_le 9 left)
    (λ k. (held / 2 ^ (left - 9) % 512, window-whole held left k, window-top held left 7 (lit≤ tt) k))
    (λ k. subst⁻¹ (λ (n : ℕ). (w : ℕ) × Window held n w × (w / 4 ≡ held / 2 ^ (n - 7) % 128)) (let e : left ≡ 8 = omega arith in e)
    (held % 256 * 2 + 1, window-short held 8 (held % 256 * 2 + 1) (omega arith) refl, omega arith))

-- what is taken of the seven bits is taken of the window
pub seven-takes : (held left top : ℕ) (r : Code) → 8 ≤ left → left ≤ 64 → top ≡ held * 2 ^ (64 - left) % 2 ^ 64
    → ((w : ℕ) → w / 4 ≡ top / 2 ^ 57 → FirstCode table w r) → (w : ℕ) × Window held left w × FirstCode table w r
seven-takes held left top r h k e takes =
    let n = seven_nine held left h in
    (n.0, n.1, takes n.0 (n.2 ∙ sym (top-bits held left top 7 (omega arith) k e)))
