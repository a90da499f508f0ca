-- Codes joined to one number, and the first bits of a text that they are.
-- Assumes nothing.
use mathlib.Core.Path.{◌≡◌, sym, ap, ap₂, subst⁻¹, ◌∙◌}
use mathlib.Core.List.{List, ◌++◌, append_assoc}
use Prim.Native.Nat.{ℕ, ◌+◌, ◌*◌, ◌%◌, ◌^◌, ◌≤◌, ◌<◌}
use native.Mathlib.Omega.{arith}
use lib.Arith.{digits_lt}
use lib.Bits.{bit_or, or_shifted}
use lib.Pow.{pow-add, shl_exact}
use Rattle.codes.specs.Pack.{low}
use Rattle.codes.specs.Steps.Sending.{FirstOf, Joinable, Joined, FourJoined}
use Rattle.codes.specs.declared.Sent.{Sent}
use Rattle.codes.proofs.PushedBits.{pushed}

join-fits : (a b m n r : ℕ) → a < 2 ^ m → b < 2 ^ n → m + n ≤ 64 → r ≡ bit_or (a * 2 ^ n % 2 ^ 64) b → r < 2 ^ (m + n)
join-fits a b m n r h k l e =
    subst⁻¹ (λ (x : ℕ). x < 2 ^ (m + n)) (e ∙ ap (λ (x : ℕ). bit_or x b) (shl_exact m n 64 h l) ∙ or_shifted a n b k)
    (subst⁻¹ (λ (x : ℕ). a * 2 ^ n + b < x) (pow-add 2 m n) (digits_lt h k))

module _ (first next : Sent) where
  pub join : {bits width count : ℕ} → Joinable 16 first → Joinable 16 next → bits ≡ bit_or (first.bits * 2 ^ next.width % 2 ^ 64) next.bits
      → width ≡ first.width + next.width → count ≡ first.count + next.count → Joined first next (record { bits = bits; width = width; count = count })
  join {bits} {width} f n b w c = record {
    same = ap (λ (k : ℕ). low k bits) w
        ∙ pushed first.bits next.bits next.width first.width bits (omega (arith, n.long)) n.fits (omega (arith, f.long, n.long)) b;
    fits = subst⁻¹ (λ (k : ℕ). bits < 2 ^ k) w
        (join-fits first.bits next.bits first.width next.width bits f.fits n.fits (omega (arith, f.long, n.long)) b);
    width = w;
    count = c;
  }

-- the first bits of a text, where they stand one behind the other
module _ (rest : ℕ → List ℕ) (size : ℕ) where
  pub first-four : (i j k l most : ℕ) (a b c d r : Sent) → FirstOf rest size i most a → FirstOf rest size j most b → FirstOf rest size k most c
      → FirstOf rest size l most d → j ≡ i + a.count → k ≡ j + b.count → l ≡ k + c.count → FourJoined a b c d r → FirstOf rest size i (4 * most) r
  first-four i j k l most a b c d r f g h m x y z o =
      let end : l + d.count ≡ i + r.count = omega (arith, o.count) in
      let A : List ℕ = low a.width a.bits in
      let B : List ℕ = low b.width b.bits in
      let C : List ℕ = low c.width c.bits in
      let D : List ℕ = low d.width d.bits in
      let last : rest k ≡ (C ++ D) ++ rest (l + d.count) =
      h.same ∙ ap (λ (n : ℕ). C ++ rest n) (sym z) ∙ ap (λ (s : List ℕ). C ++ s) m.same ∙ sym (append_assoc C D (rest (l + d.count))) in
      let front : rest i ≡ (A ++ B) ++ rest k =
      f.same ∙ ap (λ (n : ℕ). A ++ rest n) (sym x) ∙ ap (λ (s : List ℕ). A ++ s) (g.same ∙ ap (λ (n : ℕ). B ++ rest n) (sym y)) ∙ sym (append_assoc A B (rest k)) in
      record {
        same = front
            ∙ ap (λ (s : List ℕ). (A ++ B) ++ s) last
            ∙ sym (append_assoc (A ++ B) (C ++ D) (rest (l + d.count)))
            ∙ ap₂ (λ (s : List ℕ) (n : ℕ). s ++ rest n) (sym o.same) end;
        fits = o.fits;
        long = omega (arith, o.width, f.long, g.long, h.long, m.long);
        some = omega (arith, o.count, f.some);
        within = omega (arith, end, m.within);
      }
