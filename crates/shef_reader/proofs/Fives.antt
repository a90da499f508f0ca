-- Ten codes in a row whose first bits are 0: each has five bits and says one character.
-- Assumes nothing.
use Rattle.std.proofs.Common.{◌≡◌, ℕ, zero, suc, ◌+◌, ◌-◌, ◌*◌, ◌/◌, ◌%◌, ◌^◌, ◌<◌, ◌≤◌, true, T, eqb, sym, refl, ap, ◌∙◌, subst, arith, eqb→eq, eqb-true}
use native.Mathlib.Nat.{zero-div}
use lib.Bits.{bit_and, and_shr, and_mod, and_mask}
use lib.Pow.{mod-mod-pow}
use Rattle.bits.proofs.All.{all, all-at}
use Rattle.codes.specs.Pack.{low}
use Rattle.codes.specs.Steps.Passed.{CountedSoFar}
use Rattle.codes.proofs.EightBytes.{top-bits}
use Rattle.codes.proofs.ReadSoFar.{counting-none}
use Rattle.codes.proofs.TakenCodes.{counted-code}
use Rattle.shef.specs.Table.{scheme}
use Rattle.shef.proofs.Table.{mutes}
use Rattle.shef_reader.specs.Steps.Taken.{Fives}
use Rattle.shef_reader.proofs.Six.{any_code, no-line-end, six-window}

-- the ten first bits
abbrev mask : ℕ
mask = 0x8421084210840000

mask-bits : T (all (λ (k : ℕ). eqb (mask / 2 ^ (63 - 5 * k) % 2) 1) 10)
unfolding all
mask-bits = tt

pub fives-tested : (top : ℕ) → eqb (bit_and top mask) 0 ≡ true → Fives top
fives-tested top e k h =
    let j : ℕ = 63 - 5 * k in
    let one : mask / 2 ^ j % 2 ≡ 1 = eqb→eq (mask / 2 ^ j % 2) 1 (all-at (λ (i : ℕ). eqb (mask / 2 ^ (63 - 5 * i) % 2) 1) 10 mask-bits k h) in
    let none : bit_and (top / 2 ^ j) (mask / 2 ^ j) ≡ 0 =
    sym (and_shr top mask j) ∙ ap (λ (x : ℕ). x / 2 ^ j) (eqb-true (bit_and top mask) 0 e) ∙ zero-div (2 ^ j) in
    let low : bit_and (top / 2 ^ j % 2) 1 ≡ 0 =
    ap (bit_and (top / 2 ^ j % 2)) (sym one) ∙ sym (and_mod (top / 2 ^ j) (mask / 2 ^ j) 1) ∙ ap (λ (x : ℕ). x % 2) none in
    omega (arith, sym (and_mask (top / 2 ^ j % 2) 1) ∙ low)

module _ (held have : ℕ) (h : 57 ≤ have) (h' : have ≤ 64) (f : Fives (held * 2 ^ (64 - have) % 2 ^ 64)) (k : ℕ) (few : k < 10) where
  -- what is left before the code, and the word with it at the top
  abbrev left : ℕ
  left = have - 5 * k

  -- its first bit
  first_bit : held / 2 ^ (left - 1) % 2 ≡ 0
  first_bit =
      let top : ℕ = held * 2 ^ (64 - have) % 2 ^ 64 in
      let here : top / 2 ^ (64 - (5 * k + 1)) ≡ held / 2 ^ (have - (5 * k + 1)) % 2 ^ (5 * k + 1) =
      top-bits held have top (5 * k + 1) (omega arith) h' refl in
      sym (mod-mod-pow (held / 2 ^ (left - 1)) (5 * k) 1)
      ∙ ap (λ (x : ℕ). held / 2 ^ x % 2 ^ (5 * k + 1) % 2) (let e : left - 1 ≡ have - (5 * k + 1) = omega arith in e)
      ∙ ap (λ (x : ℕ). x % 2) (sym here)
      ∙ ap (λ (x : ℕ). top / 2 ^ x % 2) (let e : 64 - (5 * k + 1) ≡ 63 - 5 * k = omega arith in e)
      ∙ f k few

  -- so its six bits are below 32
  pub five-six : (top : ℕ) → top ≡ held * 2 ^ (64 - left) % 2 ^ 64 → top / 2 ^ 58 < 32
  five-six top e =
      let high : top / 2 ^ 63 ≡ held / 2 ^ (left - 1) % 2 = top-bits held left top 1 (omega arith) (omega arith) e in
      omega (arith, high ∙ first_bit)

  pub five-on : CountedSoFar scheme (low have held) (low left held) k k → CountedSoFar scheme (low have held) (low (have - 5 * suc k) held) (suc k) (suc k)
  five-on c =
      let top : ℕ = held * 2 ^ (64 - left) % 2 ^ 64 in
      let six : ℕ = top / 2 ^ 58 in
      let small : six < 32 = five-six top refl in
      let v = six-window held left top (omega arith) (omega arith) refl in
      subst (λ (n : ℕ). CountedSoFar scheme (low have held) (low n held) (suc k) (suc k)) (let e : left - 5 ≡ have - 5 * suc k = omega arith in e)
      (counted-code mutes (low have held) held left v.0 k k _ c v.1
      (any_code v.0 v.2 (omega (arith, small)) (let e : 5 ≡ 5 + six / 32 = omega (arith, small) in e)
      (sym (no-line-end six (λ x. omega (arith, small, x)))))
      (omega arith) (omega arith) (omega arith))

pub fives-counted : (held have : ℕ) → 57 ≤ have → have ≤ 64 → Fives (held * 2 ^ (64 - have) % 2 ^ 64) → (k : ℕ) → k ≤ 10
    → CountedSoFar scheme (low have held) (low (have - 5 * k) held) k k
fives-counted held have h h' f zero few =
    subst (λ (n : ℕ). CountedSoFar scheme (low have held) (low n held) 0 0) (let e : have ≡ have - 5 * 0 = omega arith in e) (counting-none scheme (low have held))
fives-counted held have h h' f (suc k) few = five-on held have h h' f k (omega arith) (fives-counted held have h h' f k (omega arith))
