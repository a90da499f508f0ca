-- Eight bytes as one number, and what is done with all of them at once done with each.
-- Assumes nothing.
use mathlib.Core.Path.{◌≡◌, refl, sym, ap, ap₂, ◌∙◌}
use mathlib.Core.List.{List}
use Prim.Native.Nat.{ℕ, zero, suc, ◌+◌, ◌-◌, ◌*◌, ◌/◌, ◌%◌, ◌^◌, ◌≤◌, ◌<◌}
use native.Mathlib.Nat.{add-zero}
use native.Mathlib.Omega.{arith}
use lib.ListN.{get_or}
use Rattle.codes.specs.Steps.EightBytes.{eight_at, eight_of}
use Rattle.codes.proofs.EightBytes.{four-at}

-- what holds of 0, of 1, .. holds of each number below n
abbrev pub Each : ℕ → (ℕ → Type 0) → Type 0
Each zero P = Unit {0}
Each (suc n) P = P 0 × Each n (λ k. P (suc k))

pub each_at : (n : ℕ) (P : ℕ → Type 0) → Each n P → (k : ℕ) → k < n → P k
each_at zero P a k h = absurd (let none : ⊥ = omega arith in none)
each_at (suc n) P a zero h = a.0
each_at (suc n) P a (suc k) h = each_at n (λ k. P (suc k)) a.1 k (omega arith)

-- the bytes of a row
pub eight-at : (s : List ℕ) (q : ℕ) → eight_at s q ≡ eight_of (λ k. get_or s (q + k) 0)
unfolding eight_at eight_of
eight-at s q =
    ap₂ (λ (a b : ℕ). a * 4294967296 + b)
    (sym (four-at s q (q + 1) (q + 2) (q + 3) refl refl refl)
    ∙ ap (λ (n : ℕ). (get_or s n 0 * 256 + get_or s (q + 1) 0) * 65536 + (get_or s (q + 2) 0 * 256 + get_or s (q + 3) 0)) (sym (add-zero q)))
    (sym (four-at s (q + 4) (q + 5) (q + 6) (q + 7) (omega arith) (omega arith) (omega arith)))

-- a sum is that of each, where none is carried over
pub eight-sum : (d e : ℕ → ℕ) → eight_of d + eight_of e ≡ eight_of (λ k. d k + e k)
unfolding eight_of
eight-sum d e = omega arith

-- and so is a difference, where none is borrowed
eight-whole : (d e g : ℕ → ℕ) → ((k : ℕ) → e k + g k ≡ d k) → eight_of e + eight_of g ≡ eight_of d
unfolding eight_of
eight-whole d e g h = omega (arith, h 0, h 1, h 2, h 3, h 4, h 5, h 6, h 7)

pub eight-difference : (d e : ℕ → ℕ) → ((k : ℕ) → e k ≤ d k) → eight_of d - eight_of e ≡ eight_of (λ k. d k - e k)
eight-difference d e h = omega (arith, eight-whole d e (λ k. d k - e k) (λ k. omega (arith, h k)))

-- an operation of bits is that of each
module _ (op : ℕ → ℕ → ℕ)
    (block : (k a b r s : ℕ) → r < 2 ^ k → s < 2 ^ k → op (a * 2 ^ k + r) (b * 2 ^ k + s) ≡ op a b * 2 ^ k + op r s)
    (d e : ℕ → ℕ) (small : (k : ℕ) → d k < 256) (few : (k : ℕ) → e k < 256) where
  two-each : (i j : ℕ) → op (d i * 256 + d j) (e i * 256 + e j) ≡ op (d i) (e i) * 256 + op (d j) (e j)
  two-each i j = block 8 (d i) (e i) (d j) (e j) (small j) (few j)

  four-each : (i j k l : ℕ) → op ((d i * 256 + d j) * 65536 + (d k * 256 + d l)) ((e i * 256 + e j) * 65536 + (e k * 256 + e l))
      ≡ (op (d i) (e i) * 256 + op (d j) (e j)) * 65536 + (op (d k) (e k) * 256 + op (d l) (e l))
  four-each i j k l =
      block 16 (d i * 256 + d j) (e i * 256 + e j) (d k * 256 + d l) (e k * 256 + e l) (omega (arith, small k, small l)) (omega (arith, few k, few l))
      ∙ ap₂ (λ (a b : ℕ). a * 65536 + b) (two-each i j) (two-each k l)

  pub eight-each : op (eight_of d) (eight_of e) ≡ eight_of (λ k. op (d k) (e k))
  unfolding eight_of
  eight-each =
      block 32 ((d 0 * 256 + d 1) * 65536 + (d 2 * 256 + d 3)) ((e 0 * 256 + e 1) * 65536 + (e 2 * 256 + e 3))
      ((d 4 * 256 + d 5) * 65536 + (d 6 * 256 + d 7)) ((e 4 * 256 + e 5) * 65536 + (e 6 * 256 + e 7))
      (omega (arith, small 4, small 5, small 6, small 7)) (omega (arith, few 4, few 5, few 6, few 7))
      ∙ ap₂ (λ (a b : ℕ). a * 4294967296 + b) (four-each 0 1 2 3) (four-each 4 5 6 7)

-- each is a byte of the number
module _ (d : ℕ → ℕ) (small : (k : ℕ) → d k < 256) where
  pub eight-byte : (k : ℕ) → k < 8 → eight_of d / 2 ^ (56 - 8 * k) % 256 ≡ d k
  unfolding eight_of
  eight-byte =
      let a : (d 0 < 256) × (d 1 < 256) × (d 2 < 256) × (d 3 < 256) = (small 0, small 1, small 2, small 3) in
      let b : (d 4 < 256) × (d 5 < 256) × (d 6 < 256) × (d 7 < 256) = (small 4, small 5, small 6, small 7) in
      each_at 8 (λ (k : ℕ). eight_of d / 2 ^ (56 - 8 * k) % 256 ≡ d k)
      (omega arith, (omega arith, (omega arith, (omega arith, (omega arith, (omega arith, (omega arith, (omega arith, tt))))))))
