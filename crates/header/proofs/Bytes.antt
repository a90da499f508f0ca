-- A header's four bytes are the header again.
-- Assumes nothing.
use mathlib.Core.Path.{◌≡◌, sym, ◌∙◌}
use Prim.Native.Nat.{ℕ, ◌+◌, ◌*◌, ◌/◌, ◌%◌, ◌^◌, ◌<◌}
use native.Mathlib.Nat.{mod-eq_of_lt}
use native.Mathlib.Omega.{arith}
use lib.Pow.{mod-pow-add}
use Rattle.header.specs.Fields.{word_of}

sums : (h a b c d x y : ℕ) → h ≡ a * 2 ^ 24 + x → x ≡ b * 2 ^ 16 + y → y ≡ c * 2 ^ 8 + d → word_of a b c d ≡ h
sums h a b c d x y p q r = omega arith

pub word_bytes : (h : ℕ) → h < 2 ^ 32 → word_of (h / 2 ^ 24 % 2 ^ 8) (h / 2 ^ 16 % 2 ^ 8) (h / 2 ^ 8 % 2 ^ 8) (h % 2 ^ 8) ≡ h
word_bytes h lt =
    sums h (h / 2 ^ 24 % 2 ^ 8) (h / 2 ^ 16 % 2 ^ 8) (h / 2 ^ 8 % 2 ^ 8) (h % 2 ^ 8) (h % 2 ^ 24) (h % 2 ^ 16) (sym (mod-eq_of_lt lt) ∙ mod-pow-add h 8 24)
    (mod-pow-add h 8 16) (mod-pow-add h 8 8)
