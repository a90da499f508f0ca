-- The number of bits before the fill of what our writer builds, counted along the text.
-- Assumes nothing.
use mathlib.Core.Bool.{Bool, false, cond}
use mathlib.Core.List.{List, [], ◌∷◌}
use Prim.Native.Nat.{ℕ, zero, suc, pred, ◌+◌}
use Rattle.pseudo_binary.specs.Table.{Kind, values, spaces, slashes, is_of}
use Rattle.pseudo_binary.specs.Writer.{kind, our_most}

-- the bits of an indicator
unfoldable pub width : Kind → ℕ
width values = 8
width spaces = 6
width slashes = 6

-- and of each character besides
unfoldable pub each : Kind → ℕ
each values = 6
each spaces = 0
each slashes = 0

-- an indicator of kind k that can count n characters more counts this one
unfoldable pub takes : Kind → ℕ → ℕ → Bool
takes k zero c = false
takes k (suc n) c = is_of k c

-- the last indicator is of kind k and can count n characters more. A character that it does not count needs a new one
unfoldable pub bits_after : Kind → ℕ → List ℕ → ℕ
bits_after k n [] = 0
bits_after k n (c ∷ text) =
    let counted = each k + bits_after k (pred n) text in
    let opened = width (kind c) + (each (kind c) + bits_after (kind c) (pred (our_most (kind c))) text) in
    cond (takes k n c) counted opened

-- at the front there is none, of any kind
unfoldable pub our_bits : List ℕ → ℕ
our_bits text = bits_after values 0 text
