-- What is done to a received word: bits that account for its difference are turned over, and the parity bit is set. That makes a valid header, and no
-- other lies within two bits.
-- Assumes nothing.
use mathlib.Core.Path.{◌≡◌, sym, ap, ap₂, ◌∙◌, subst}
use Prim.Native.Nat.{ℕ, ◌%◌, ◌^◌, ◌≤◌, ◌<◌}
use native.Mathlib.Nat.{mod-lt, mod-eq_of_lt}
use native.Mathlib.Omega.{arith}
use lib.Bits.{bit_xor, xor_lt, xor_mod, xor_self, xor_zero_r}
use lib.Count.{ones, ones_in}
use lib.Pow.{pow_pos}
use Rattle.bits.specs.Word.{differences}
use Rattle.bits.proofs.Ones.{ones-all, ones_low, differences-comm, differences-round}
use Rattle.bits.proofs.Xor.{xor-undo, xor-zero}
use Rattle.header.specs.Check.{check_of}
use Rattle.header.specs.Flag.{Odd}
use Rattle.header.specs.Steps.Differences.{difference_in}
use Rattle.header.specs.Valid.{Valid, flag_in, check_in, information_in}
use Rattle.header.proofs.Division.{remainder-lt}
use Rattle.distance.specs.Distance.{distance, ValidWithin}
use Rattle.distance.specs.Steps.Left.{left}
use Rattle.distance.proofs.Apart.{low-apart}
use Rattle.distance.proofs.Left.{left-sum, left-difference, valid-left}
use Rattle.distance.proofs.Words.{low_near}
use Rattle.std.specs.Prelude.{Option, Some, None}
use Rattle.repair.specs.Steps.Repair.{Accounts, Repairs}

pub difference-lt : (h : ℕ) → difference_in h < 2 ^ 10
unfolding left
difference-lt h = subst (λ (n : ℕ). n < 2 ^ 10) (left-difference h) (remainder-lt 21 (h % 2 ^ 31) (mod-lt h (pow_pos 31)))

pub counted : (a b : ℕ) → a < 2 ^ 32 → b < 2 ^ 32 → ones (bit_xor a b) ≡ distance a b
unfolding distance differences
counted a b ha hb = ones-all 32 (bit_xor a b) (xor_lt 32 a b ha hb)

-- ---- a header with bits turned over

pub record Turned (received mask header : ℕ) : Type 0 where
  pub account : Accounts (difference_in received) mask
  pub bits : header < 2 ^ 32
  pub odd : Odd (flag_in header)
  pub low : header % 2 ^ 31 ≡ bit_xor received mask % 2 ^ 31

module _ {received mask header : ℕ} (t : Turned received mask header) where
  parts : header % 2 ^ 31 ≡ bit_xor (received % 2 ^ 31) mask
  parts = t.low ∙ xor_mod received mask 31 ∙ ap (bit_xor (received % 2 ^ 31)) (mod-eq_of_lt t.account.bits)

  -- nothing is left
  checked : difference_in header ≡ 0
  checked =
      sym (left-difference header)
      ∙ ap left parts
      ∙ left-sum (received % 2 ^ 31) mask
      ∙ ap₂ bit_xor (left-difference received) t.account.leaves
      ∙ xor_self (difference_in received)

  pub turned-valid : Valid header
  unfolding difference_in
  turned-valid =
      record { bits = t.bits; checked = sym (xor-zero (check_of (information_in header)) (check_in header) checked); parity = t.odd }

  few : differences 31 received header ≤ 2
  unfolding differences
  few =
      let turned : bit_xor received header % 2 ^ 31 ≡ mask =
      xor_mod received header 31 ∙ ap (bit_xor (received % 2 ^ 31)) parts ∙ xor-undo (received % 2 ^ 31) mask in
      omega (arith, ones_low 31 (bit_xor received header), ap (ones_in 31) turned, t.account.few)

  -- a valid header within two bits is this one
  near-is : (limit v : ℕ) → limit ≤ 2 → ValidWithin limit received v → header ≡ v
  unfolding differences
  near-is limit v le n =
      low-apart header v turned-valid n.valid
      (omega (arith, differences-round 31 header received v, differences-comm 31 header received, few, low_near received v, n.near))

  pub none-nearer : (limit : ℕ) → limit ≤ 2 → limit < distance received header → (v : ℕ) → ValidWithin limit received v → ⊥
  none-nearer limit le far v n = omega (arith, far, n.near, ap (distance received) (near-is limit v le n))

-- ---- where no bits account for the difference

pub none_within : (limit received : ℕ) → limit ≤ 2 → ((mask : ℕ) → Accounts (difference_in received) mask → ⊥) → (v : ℕ) → ValidWithin limit received v → ⊥
unfolding differences
none_within limit received le none v n =
    none (bit_xor received v % 2 ^ 31)
    (record {
      bits = mod-lt (bit_xor received v) (pow_pos 31);
      few = omega (arith, ones_low 31 (bit_xor received v), low_near received v, n.near);
      leaves =
          ap left (xor_mod received v 31)
          ∙ left-sum (received % 2 ^ 31) (v % 2 ^ 31)
          ∙ ap₂ bit_xor (left-difference received) (valid-left v n.valid)
          ∙ xor_zero_r (difference_in received);
    })

-- ---- in the code's terms: what the answer of a repair says

pub repaired : (received difference mask : ℕ) (cause : Option ℕ) → difference ≡ difference_in received → Repairs difference cause → cause ≡ Some mask
    → Accounts (difference_in received) mask
repaired received difference mask cause d r e = subst (λ (n : ℕ). Accounts n mask) d (subst (Repairs difference) e r)

pub unrepaired : (limit received difference : ℕ) (cause : Option ℕ) → limit ≤ 2 → difference ≡ difference_in received → Repairs difference cause → cause ≡ None
    → (v : ℕ) → ValidWithin limit received v → ⊥
unrepaired limit received difference cause le d r e =
    none_within limit received le (subst (λ (n : ℕ). (mask : ℕ) → Accounts n mask → ⊥) d (subst (Repairs difference) e r))
