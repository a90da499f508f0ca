-- The check bits are the remainder: the long division leaves less than 2^10, a quotient goes with it, and nothing else can be left.
-- Assumes nothing.
use mathlib.Core.Path.{◌≡◌, refl, sym, ap, ap₂, ◌∙◌, subst}
use mathlib.Core.Logic.{◌↔◌}
use mathlib.Core.List.{List, [], ◌∷◌}
use Prim.Native.Nat.{ℕ, zero, suc, ◌+◌, ◌*◌, ◌/◌, ◌%◌, ◌^◌, ◌≤◌, ◌<◌}
use native.Mathlib.Nat.{mod-lt, mul_assoc, suc-add, zero-mul, pow-suc, div-eq_of_lt, mod-eq_of_lt, div-lt_iff_lt-mul, lt_of_lt_of_le, one-mul}
use native.Mathlib.Decide.{dec_le, le_ind}
use native.Mathlib.Omega.{arith}
use lib.Dec.{lit<}
use lib.Pow.{shl_lt, shl-shr, shr-shr, pow_pos, pow_mono}
use lib.Bits.{bit_xor, xor_lt, xor_shr, xor_comm, xor_self, xor_zero_r}
use lib.ListN.{length}
use Rattle.bits.proofs.Xor.{two_pos, xor_assoc, xor-undo, xor-cross, xor-digits, xor-odd}
use Rattle.header.specs.Check.{generator, remainder, check_of, multiple, Leaves, Coefficients}

pub shifted-shr : (k i p : ℕ) → p * 2 ^ k / 2 ^ (k + i) ≡ p / 2 ^ i
shifted-shr k i p = sym (shr-shr (p * 2 ^ k) k i) ∙ ap (λ (n : ℕ). n / 2 ^ i) (shl-shr p k)

-- ---- the generator times x^k has its highest coefficient at x^(k + 10)

scaled : (k b : ℕ) → b * (generator * 2 ^ k) ≡ b * generator * 2 ^ k
scaled k b = sym (mul_assoc b generator (2 ^ k))

pub part-lt : (k b : ℕ) → b < 2 → b * (generator * 2 ^ k) < 2 ^ (suc k + 10)
unfolding generator
part-lt k b h =
    let small : b * generator < 2 ^ 11 = omega arith in
    let power : 11 + k ≡ suc k + 10 = omega arith in
    subst (λ (n : ℕ). n < 2 ^ (suc k + 10)) (sym (scaled k b)) (subst (λ (n : ℕ). b * generator * 2 ^ k < 2 ^ n) power (shl_lt 11 k small))

part-top : (k b : ℕ) → b < 2 → b * (generator * 2 ^ k) / 2 ^ (k + 10) ≡ b
unfolding generator
part-top k b h =
    ap (λ (n : ℕ). n / 2 ^ (k + 10)) (scaled k b)
    ∙ shifted-shr k 10 (b * generator)
    ∙ (let e : b * generator / 2 ^ 10 ≡ b = omega arith in e)

-- ---- one step

pow-up : (k : ℕ) → 2 ^ (suc k + 10) ≡ 2 ^ (k + 10) * 2
pow-up k = ap (λ (n : ℕ). 2 ^ n) (suc-add k 10) ∙ pow-suc 2 (k + 10)

top_lt : (k p : ℕ) → p < 2 ^ (suc k + 10) → p / 2 ^ (k + 10) < 2
top_lt k p h = (div-lt_iff_lt-mul (pow_pos (k + 10))).1 (let q : p < 2 * 2 ^ (k + 10) = omega (arith, pow-up k) in q)

pub no_top : (k n : ℕ) → n / 2 ^ k ≡ 0 → n < 2 ^ k
no_top k n e =
    subst (λ (m : ℕ). n < m) (one-mul (2 ^ k)) ((div-lt_iff_lt-mul (pow_pos k)).0 (let q : n / 2 ^ k < 1 = omega arith in q))

step-lt : (k p : ℕ) → p < 2 ^ (suc k + 10) → bit_xor p (p / 2 ^ (k + 10) % 2 * (generator * 2 ^ k)) < 2 ^ (k + 10)
step-lt k p h =
    let b = p / 2 ^ (k + 10) % 2 in
    no_top (k + 10) (bit_xor p (b * (generator * 2 ^ k)))
    (xor_shr p (b * (generator * 2 ^ k)) (k + 10)
    ∙ ap₂ bit_xor (sym (mod-eq_of_lt (top_lt k p h))) (part-top k b (mod-lt (p / 2 ^ (k + 10)) two_pos))
    ∙ xor_self b)

-- what is left is below 2^10
pub remainder-lt : (k p : ℕ) → p < 2 ^ (k + 10) → remainder k p < 2 ^ 10
unfolding remainder
remainder-lt zero p h = h
remainder-lt (suc k) p h = remainder-lt k (bit_xor p (p / 2 ^ (k + 10) % 2 * (generator * 2 ^ k))) (step-lt k p h)

pub check-lt : (i : ℕ) → i < 2 ^ 21 → check_of i < 2 ^ 10
unfolding check_of
check-lt i h = remainder-lt 21 (i * 2 ^ 10) (shl_lt 21 10 h)

-- ---- the division goes through sums

step_sum : (k p q : ℕ)
    → bit_xor (bit_xor p q) (bit_xor p q / 2 ^ (k + 10) % 2 * (generator * 2 ^ k))
    ≡ bit_xor (bit_xor p (p / 2 ^ (k + 10) % 2 * (generator * 2 ^ k))) (bit_xor q (q / 2 ^ (k + 10) % 2 * (generator * 2 ^ k)))
step_sum k p q =
    let x = p / 2 ^ (k + 10) in
    let y = q / 2 ^ (k + 10) in
    let g = generator * 2 ^ k in
    ap (λ (n : ℕ). bit_xor (bit_xor p q) (n * g))
    (ap (λ (n : ℕ). n % 2) (xor_shr p q (k + 10)) ∙ xor-odd x y)
    ∙ ap (bit_xor (bit_xor p q)) (sym (xor-digits (x % 2) (y % 2) g (mod-lt x two_pos) (mod-lt y two_pos)))
    ∙ xor-cross p q (x % 2 * g) (y % 2 * g)

pub remainder-sum : (k p q : ℕ) → remainder k (bit_xor p q) ≡ bit_xor (remainder k p) (remainder k q)
unfolding remainder
remainder-sum zero p q = refl
remainder-sum (suc k) p q =
    ap (remainder k) (step_sum k p q)
    ∙ remainder-sum k (bit_xor p (p / 2 ^ (k + 10) % 2 * (generator * 2 ^ k))) (bit_xor q (q / 2 ^ (k + 10) % 2 * (generator * 2 ^ k)))

-- ---- a quotient goes with it

pub record Divided (k p : ℕ) : Type 0 where
  pub quotient : List ℕ
  pub coefficients : Coefficients quotient
  pub long : length quotient ≡ k
  pub divided : p ≡ bit_xor (multiple quotient) (remainder k p)

divide : (k p : ℕ) → Divided k p
unfolding remainder multiple
divide zero p = record { quotient = []; coefficients = tt; long = refl; divided = refl }
divide (suc k) p =
    let b = p / 2 ^ (k + 10) % 2 in
    let rest = divide k (bit_xor p (b * (generator * 2 ^ k))) in
    record {
      quotient = b ∷ rest.quotient;
      coefficients = (mod-lt (p / 2 ^ (k + 10)) two_pos, rest.coefficients);
      long = ap suc rest.long;
      divided =
          sym (ap (bit_xor (b * (generator * 2 ^ k))) (xor_comm p (b * (generator * 2 ^ k))) ∙ xor-undo (b * (generator * 2 ^ k)) p)
          ∙ ap (bit_xor (b * (generator * 2 ^ k))) rest.divided
          ∙ sym (xor_assoc (b * (generator * 2 ^ k)) (multiple rest.quotient) (remainder k (bit_xor p (b * (generator * 2 ^ k)))))
          ∙ ap
          (λ (n : ℕ). bit_xor (bit_xor (b * (generator * 2 ^ n)) (multiple rest.quotient)) (remainder k (bit_xor p (b * (generator * 2 ^ k)))))
          (sym rest.long);
    }

-- ---- and nothing else can be left

pow_more : (k : ℕ) {n : ℕ} → n < 2 ^ 10 → n < 2 ^ (k + 10)
pow_more k h = lt_of_lt_of_le h (pow_mono (let le : 10 ≤ k + 10 = omega arith in le))

multiple-lt : (qs : List ℕ) → Coefficients qs → multiple qs < 2 ^ (length qs + 10)
unfolding multiple
multiple-lt [] c = lit< tt
multiple-lt (q ∷ qs) c =
    let rest : multiple qs < 2 ^ (length qs + 10) = multiple-lt qs c.1 in
    xor_lt (suc (length qs) + 10) (q * (generator * 2 ^ length qs)) (multiple qs) (part-lt (length qs) q c.0)
    (let wider : multiple qs < 2 ^ (suc (length qs) + 10) = omega (arith, pow-up (length qs)) in wider)

left-again : (qs : List ℕ) (r : ℕ) → Coefficients qs → r < 2 ^ 10 → remainder (length qs) (bit_xor (multiple qs) r) ≡ r
unfolding remainder multiple
left-again [] r c h = refl
left-again (q ∷ qs) r c h = ap (remainder k) (ap₂ bit_xor joined (ap (λ (n : ℕ). n * (generator * 2 ^ k)) digit) ∙ gone) ∙ left-again qs r c.1 h
  where
    k : ℕ
    k = length qs

    part : ℕ
    part = q * (generator * 2 ^ k)

    rest : ℕ
    rest = bit_xor (multiple qs) r

    p : ℕ
    p = bit_xor (bit_xor part (multiple qs)) r

    joined : p ≡ bit_xor part rest
    joined = xor_assoc part (multiple qs) r

    rest_lt : rest < 2 ^ (k + 10)
    rest_lt = xor_lt (k + 10) (multiple qs) r (multiple-lt qs c.1) (pow_more k h)

    digit : p / 2 ^ (k + 10) % 2 ≡ q
    digit =
        ap (λ (n : ℕ). n / 2 ^ (k + 10) % 2) joined
        ∙ ap (λ (n : ℕ). n % 2)
        (xor_shr part rest (k + 10) ∙ ap₂ bit_xor (part-top k q c.0) (div-eq_of_lt rest_lt) ∙ xor_zero_r q)
        ∙ mod-eq_of_lt c.0

    gone : bit_xor (bit_xor part rest) part ≡ rest
    gone = xor_comm (bit_xor part rest) part ∙ xor-undo part rest

-- a step above the number's own degree takes nothing away
idle : (k p : ℕ) → p < 2 ^ (k + 10) → remainder (suc k) p ≡ remainder k p
unfolding remainder
idle k p h =
    ap (remainder k)
    (ap (λ (n : ℕ). bit_xor p (n % 2 * (generator * 2 ^ k))) (div-eq_of_lt h) ∙ ap (bit_xor p) (zero-mul (generator * 2 ^ k)) ∙ xor_zero_r p)

pub longer : (k m p : ℕ) → p < 2 ^ (k + 10) → k ≤ m → remainder m p ≡ remainder k p
longer k m p h le =
    le_ind (λ (n : ℕ). remainder n p ≡ remainder k p) refl
    (λ n more e. idle n p (lt_of_lt_of_le h (pow_mono (let up : k + 10 ≤ n + 10 = omega arith in up))) ∙ e) m le

leaves-lt : {p r : ℕ} (l : Leaves p r) → p < 2 ^ (length l.quotient + 10)
leaves-lt {p} {r} l =
    subst (λ (n : ℕ). n < 2 ^ (length l.quotient + 10)) (sym l.divided)
    (xor_lt (length l.quotient + 10) (multiple l.quotient) r (multiple-lt l.quotient l.coefficients)
    (pow_more (length l.quotient) l.lower))

leaves-remainder : {p r : ℕ} (l : Leaves p r) → remainder (length l.quotient) p ≡ r
leaves-remainder {p} {r} l = ap (remainder (length l.quotient)) l.divided ∙ left-again l.quotient r l.coefficients l.lower

meet : {p r s : ℕ} (l : Leaves p r) (m : Leaves p s) → length l.quotient ≤ length m.quotient → r ≡ s
meet {p} l m le =
    sym (leaves-remainder l) ∙ sym (longer (length l.quotient) (length m.quotient) p (leaves-lt l) le) ∙ leaves-remainder m

pub one-remainder : {p r s : ℕ} → Leaves p r → Leaves p s → r ≡ s
one-remainder {p} {r} {s} l m = go (dec_le (length l.quotient) (length m.quotient))
  where
    go : Dec (length l.quotient ≤ length m.quotient) → r ≡ s
    go (yes le) = meet l m le
    go (no gt) = sym (meet m l (let le : length m.quotient ≤ length l.quotient = omega arith in le))

check-left : (i : ℕ) → i < 2 ^ 21 → Leaves (i * 2 ^ 10) (check_of i)
unfolding check_of
check-left i h =
    let d = divide 21 (i * 2 ^ 10) in
    record { quotient = d.quotient; coefficients = d.coefficients; divided = d.divided; lower = check-lt i h }

-- times 2^10 and divided by the generator, 21 information bits leave the check bits, and no other number
pub check-is-remainder : (i r : ℕ) → i < 2 ^ 21 → Leaves (i * 2 ^ 10) r ↔ (r ≡ check_of i)
check-is-remainder i r h = (
  λ l. one-remainder l (check-left i h),
  λ e. subst (λ (n : ℕ). Leaves (i * 2 ^ 10) n) (sym e) (check-left i h),
)
