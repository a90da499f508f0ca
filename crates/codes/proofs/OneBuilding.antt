-- Data of the same entries is the same: the fill is as long as the byte needs.
-- Assumes nothing.
use mathlib.Core.List.{List, ◌++◌}
use mathlib.Core.Path.{◌≡◌, sym, ap, ap₂, ◌∙◌}
use Prim.Native.Nat.{ℕ, ◌+◌, ◌*◌, ◌<◌}
use native.Mathlib.Omega.{arith}
use lib.ListN.{length, length-append, replicate}
use Rattle.bits.specs.Row.{Bytes}
use Rattle.codes.specs.Chain.{Entry, Scheme, codes, Built}
use Rattle.codes.specs.Pack.{packed}
use Rattle.codes.proofs.BitsInBytes.{length-bits, packed-bits}

-- two fills behind as many bits, each up to a byte's end
fill-length : (n f g j k : ℕ) → n + f ≡ j * 8 → n + g ≡ k * 8 → f < 8 → g < 8 → f ≡ g
fill-length n f g j k x y l m = omega arith

module _ {scheme : Scheme} (few : scheme.unused < 8) {t u : List ℕ} (a b : List ℕ) (p : Built scheme t a) (q : Built scheme u b) (same : p.entries ≡ q.entries) where
  same_length : length p.fill ≡ length q.fill
  same_length =
      let long-p : length (codes p.entries) + length p.fill ≡ length a * 8 =
      omega (arith, length-bits a, ap length p.bits, length-append (codes p.entries) p.fill) in
      let long-q : length (codes p.entries) + length q.fill ≡ length b * 8 =
      omega (arith, length-bits b, ap length q.bits, length-append (codes q.entries) q.fill, ap (λ (es : List Entry). length (codes es)) same) in
      fill-length (length (codes p.entries)) (length p.fill) (length q.fill) (length a) (length b) long-p long-q
      (omega (arith, p.ends.few, few)) (omega (arith, q.ends.few, few))

  same-fill : p.fill ≡ q.fill
  same-fill = p.ends.ones ∙ ap (λ (n : ℕ). replicate n 1) same_length ∙ sym q.ends.ones

  pub same-data : Bytes a → Bytes b → a ≡ b
  same-data h k =
      sym (packed-bits a h)
      ∙ ap packed (p.bits ∙ ap₂ (λ (es : List Entry) (f : List ℕ). codes es ++ f) same same-fill ∙ sym q.bits)
      ∙ packed-bits b k
