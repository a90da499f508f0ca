-- What is pending at the end, with its fill: the last bytes, and all of them flushed.
-- Assumes nothing.
use mathlib.Core.Path.{◌≡◌, sym, ap, ap₂, ◌∙◌}
use mathlib.Core.List.{List, [], ◌∷◌, ◌++◌, append-nil}
use Prim.Native.Nat.{ℕ, zero, suc, zero-le, ◌+◌, ◌-◌, ◌*◌, ◌/◌, ◌≤◌, ◌<◌}
use native.Mathlib.Nat.{add-zero}
use native.Mathlib.Omega.{arith}
use lib.Dec.{lit≤}
use lib.ListN.{replicate, length-replicate, take-append-drop, length, take, drop, length-append, length-drop}
use lib.Seq.{take-take, take-append-add, take_at, length-take-le}
use Rattle.bits.specs.Row.{Bytes}
use Rattle.codes.specs.Pack.{low, packed, gap, filled}
use Rattle.codes.specs.Steps.BitBuffer.{Window}
use Rattle.codes.specs.Steps.Laid.{laid, Flushed}
use Rattle.codes.specs.Steps.Pending.{Pending}
use Rattle.codes.proofs.BitBuffer.{take-ones}
use Rattle.codes.proofs.LaidRows.{laid_nil, laid-laid}
use Rattle.codes.proofs.LowBits.{length-low, low-binary, low-add}
use Rattle.codes.proofs.BitsInBytes.{length-bits, packed-bytes, bits-packed, packed-bits, length-packed, filled-binary, filled-whole, length-filled}

-- the bits, then ones up to the byte's end, in bytes
module _ (held have : ℕ) where
  pub last-bytes : Bytes (packed (filled (low have held)))
  last-bytes = packed-bytes (filled (low have held)) (filled-binary (low have held) (low-binary have held)) (filled-whole (low have held))

  pub last-length : length (packed (filled (low have held))) ≡ (have + 7) / 8
  last-length = omega (arith, length-packed (filled (low have held)), length-filled (low have held), length-low have held)

  pub last-pending : (out : List ℕ) (m : ℕ) → Pending (packed (filled (low have held))) out out m m held have (replicate (gap have) 1)
  unfolding filled
  last-pending out m = record {
    count = 0;
    place = sym (add-zero m);
    within = zero-le;
    pending = bits-packed (filled (low have held)) (filled-binary (low have held) (low-binary have held)) (filled-whole (low have held))
        ∙ ap (λ (n : ℕ). low have held ++ replicate (gap n) 1) (length-low have held);
    whole = sym (laid_nil out m);
  }

-- the fill that is left, none or up to the eighth bit
pub gap-none : (have k : ℕ) → have ≡ 8 * k → gap have ≡ 0
unfolding gap
gap-none have k e = omega arith

pub gap-some : (have k left : ℕ) → have ≡ 8 * k + left → 0 < left → left < 8 → gap have ≡ 8 - left
unfolding gap
gap-some have k left e h j = omega arith

-- the last byte, out of the window that is filled with ones
pub last-window : (held left w : ℕ) → left < 8 → Window held left w → low left held ++ replicate (8 - left) 1 ≡ low 8 (w / 2) ++ []
last-window held left w h v =
    let ones : List ℕ = replicate 9 1 in
    let eight : low 8 (w / 2) ≡ take 8 (low left held ++ ones) =
    sym (take_at (low 8 (w / 2)) (low 1 w) 8 (length-low 8 (w / 2)))
    ∙ ap (take 8) (sym (low-add 8 1 w) ∙ v.nine)
    ∙ take-take 8 9 (low left held ++ ones) (lit≤ tt) in
    sym
    (append-nil (low 8 (w / 2))
    ∙ eight
    ∙ ap (λ (n : ℕ). take n (low left held ++ ones))
    (let e : 8 ≡ length (low left held) + (8 - left) = omega (arith, length-low left held) in e)
    ∙ take-append-add (low left held) ones (8 - left)
    ∙ ap (λ (l : List ℕ). low left held ++ l) (take-ones (8 - left) (omega arith)))

pub pending-last : (w entry out : List ℕ) (m n held left number g : ℕ) → left < 8 → g ≡ 8 - left → Window held left number
    → Pending w entry out m n held left (replicate g 1) → Pending w entry out m n (number / 2) 8 []
pending-last w entry out m n held left number g h e v p = record {
  count = p.count;
  place = p.place;
  within = p.within;
  pending = p.pending ∙ ap (λ (k : ℕ). low left held ++ replicate k 1) e ∙ last-window held left number h v;
  whole = p.whole;
}

bytes_drop : (w : List ℕ) (k : ℕ) → Bytes w → Bytes (drop k w)
bytes_drop w zero b = b
bytes_drop [] (suc k) b = tt
bytes_drop (x ∷ w) (suc k) b = bytes_drop w k b.1

gap_of : (have g k : ℕ) → have + g ≡ k * 8 → g ≤ 7 → g ≡ gap have
unfolding gap
gap_of have g k e h = omega arith

-- what is pending, with its fill, flushed after the bytes so far
module _ (w entry out : List ℕ) (m n held have g : ℕ) (bytes : Bytes w) (room : m + length w ≤ length entry) (few : g ≤ 7)
    (p : Pending w entry out m n held have (replicate g 1)) where
  pub flush-size : have + g ≡ (length w - p.count) * 8
  flush-size =
      omega (
        arith,
        ap length p.pending,
        length-bits (drop p.count w),
        length-drop p.count w,
        length-append (low have held) (replicate g 1),
        length-low have held,
        length-replicate {A = ℕ} g 1,
      )

  pub flush-room : n + (have + 7) / 8 ≤ m + length w
  flush-room = omega (arith, flush-size, p.place, p.within)

  rest-bytes : packed (filled (low have held)) ≡ drop p.count w
  unfolding filled
  rest-bytes =
      ap packed
      (ap (λ (k : ℕ). low have held ++ replicate k 1)
      (ap gap (length-low have held) ∙ sym (gap_of have g (length w - p.count) flush-size few))
      ∙ sym p.pending)
      ∙ packed-bits (drop p.count w) (bytes_drop w p.count bytes)

  pub flushed : (exit : List ℕ) (r : ℕ) → Flushed (low have held) out exit n r → (exit ≡ laid entry m w) × (r ≡ m + length w)
  flushed exit r f =
      let size : length (take p.count w) ≡ p.count = length-take-le p.count w p.within in (
        f.whole
            ∙ ap₂ (λ (l b : List ℕ). laid l n b) p.whole rest-bytes
            ∙ laid-laid entry m n (take p.count w) (drop p.count w) (omega (arith, p.within)) (omega (arith, p.place))
            ∙ ap (laid entry m) (take-append-drop p.count w),
        omega (arith, f.place, ap length rest-bytes, length-drop p.count w, p.place, p.within),
      )
