-- The codes of a text as the writer sends them, one after the other.
-- Assumes nothing.
use mathlib.Core.Path.{◌≡◌, refl, sym, ap, ap₂, subst, subst⁻¹, subst₂, ◌∙◌}
use mathlib.Core.Bool.{true, false, ◌&&◌}
use mathlib.Core.Logic.{by_cases}
use mathlib.Core.List.{List}
use Prim.Native.Nat.{ℕ, ◌+◌, ◌/◌, ◌%◌, ◌^◌, ◌≤◌, ◌<◌}
use native.Mathlib.Decide.{ℕ_discrete}
use native.Mathlib.Omega.{arith}
use lib.Bits.{bit_and, and_le_l, and_le_r}
use lib.Dec.{T, eqb, lit≤, lit<}
use lib.ListN.{length, take, get_or}
use Rattle.codes.specs.Chain.{codes}
use Rattle.codes.specs.Coded.{last_of}
use Rattle.codes.specs.Pack.{low, value}
use Rattle.codes.specs.Steps.Sending.{OneOf, FirstOf, Joinable, FourJoined}
use Rattle.codes.specs.declared.Sent.{Sent}
use Rattle.codes.proofs.EachAfter.{each_next}
use Rattle.codes.proofs.FirstOfText.{one-wider, four-own}
use Rattle.codes.proofs.LowBits.{low_value, value-lt}
use Rattle.shef.specs.Writer.{coded, AllCoded, own}
use Rattle.shef_writer.specs.Steps.Sending.{CodeOf, OwnOf, codes_from, entry_of}
use Rattle.shef_writer.proofs.Telling.{own-none, own_same, width-told, bits-few, own-binary, entry-number, entry-own}

-- the code of a character
pub sends_none : (before c : ℕ) → (eqb before 13 && eqb c 10) ≡ true → OwnOf before c (record { bits = 0; width = 0; count = 1 })
unfolding low
sends_none before c e = record { same = own-none before c e; fits = lit< tt; long = lit≤ tt; count = refl }

pub sends-own : (before c entry : ℕ) (r : Sent) → c < 256 → T (coded c) → (eqb before 13 && eqb c 10) ≡ false → entry % 64 ≡ value (codes (own 0 c))
    → CodeOf entry r → OwnOf before c r
sends-own before c entry r h t e x o =
    let row : List ℕ = codes (own 0 c) in
    let bits : r.bits ≡ value row = o.number ∙ x in
    let wide : length row ≡ r.width = width-told c h t ∙ ap (λ (n : ℕ). 5 + n / 32) (sym bits) ∙ sym o.width in
    record {
      same = ap codes (own_same before c e) ∙ sym (low_value row (own-binary 0 c)) ∙ ap₂ (λ (n v : ℕ). low n v) wide (sym bits);
      fits = subst₂ (λ (v n : ℕ). v < 2 ^ n) (sym bits) wide (value-lt row (own-binary 0 c));
      long = omega (arith, wide, bits-few c h t);
      count = o.count;
    }

pub code-joinable : (entry : ℕ) (r : Sent) → CodeOf entry r → Joinable 8 r
code-joinable entry r o = record {
  fits = by_cases (ℕ_discrete (r.bits / 32) 0)
      (λ e. subst⁻¹ (λ (n : ℕ). r.bits < 2 ^ n) (let five : r.width ≡ 5 = omega (arith, o.width) in five) (omega arith))
      (λ e. subst⁻¹ (λ (n : ℕ). r.bits < 2 ^ n) (let six : r.width ≡ 6 = omega (arith, o.width, o.number) in six) (omega (arith, o.number)));
  long = omega (arith, o.width, o.number);
  count = omega (arith, o.count);
}

sends-entry : (before c entry : ℕ) (r : Sent) → c < 256 → T (coded c) → entry ≡ entry_of c → 64 ≤ entry → CodeOf entry r → OwnOf before c r
sends-entry before c entry r h t e k o =
    sends-own before c entry r h t (entry-own c h t before (subst (λ (n : ℕ). 64 ≤ n) e k)) (ap (λ (n : ℕ). n % 64) e ∙ entry-number c h t) o

-- the first four, by their entries
module _ (t : List ℕ) (i : ℕ) (all : AllCoded t) (bytes : (k : ℕ) → get_or t k 0 < 256) where
  pub four-entries : (a b c d : ℕ) (p q s u r : Sent) → i + 4 ≤ length t → a ≡ entry_of (get_or t i 0) → b ≡ entry_of (get_or t (i + 1) 0)
      → c ≡ entry_of (get_or t (i + 2) 0) → d ≡ entry_of (get_or t (i + 3) 0) → 64 ≤ bit_and a (bit_and b (bit_and c d)) → CodeOf a p → CodeOf b q → CodeOf c s
      → CodeOf d u → FourJoined p q s u r → FirstOf (codes_from t) (length t) i 32 r
  four-entries a b c d p q s u r there ea eb ec ed plain op oq os ou =
      let three : ℕ = bit_and b (bit_and c d) in
      let two : ℕ = bit_and c d in
      let own_at : (before k e : ℕ) (x : Sent) → k < length t → e ≡ entry_of (get_or t k 0) → 64 ≤ e → CodeOf e x → OneOf (codes (own before (get_or t k 0))) 8 x =
      λ before k e x h f n o. one-wider (lit≤ tt) (sends-entry before (get_or t k 0) e x (bytes k) (all k h) f n o) in
      four-own t (λ (x y : ℕ). codes (own x y)) (codes_from t) (each_next own t) 8 i (last_of (take i t)) p q s u r there refl
      (own_at (last_of (take i t)) i a p (omega arith) ea (omega (arith, and_le_l a three)) op)
      (own_at (get_or t i 0) (i + 1) b q (omega arith) eb (omega (arith, and_le_r a three, and_le_l b two)) oq)
      (own_at (get_or t (i + 1) 0) (i + 2) c s (omega arith) ec (omega (arith, and_le_r a three, and_le_r b two, and_le_l c d)) os)
      (own_at (get_or t (i + 2) 0) (i + 3) d u (omega arith) ed (omega (arith, and_le_r a three, and_le_r b two, and_le_r c d)) ou)
