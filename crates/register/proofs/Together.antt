-- Parts of the data side by side: 192 steps in a few, and what parts leave alone put together, since the register's steps respect the exclusive or.
-- Assumes nothing.
use mathlib.Core.List.{List, [], ◌∷◌}
use mathlib.Core.Logic.{⊎_elim}
use mathlib.Core.Path.{◌≡◌, refl, sym, ap, ap₂, ◌∙◌}
use Prim.Native.Nat.{ℕ, zero, suc, ◌+◌, ◌*◌, ◌/◌, ◌%◌, ◌^◌, ◌≤◌, ◌<◌}
use native.Mathlib.Nat.{mod-lt, pow-succ', lt_of_lt_of_le, pow-le-pow_right}
use native.Mathlib.Omega.{arith}
use lib.Bits.{bit_xor, xor_comm, xor_zero_r, xor_shifted}
use lib.ListN.{length, get_or, take, drop, length-drop}
use lib.Seq.{drop-drop, length-take-le}
use Rattle.bits.proofs.Xor.{two_pos, digit-of, xor_assoc, xor-cross}
use Rattle.register.specs.Register.{feedback, bit_step, bit_steps, byte_step, checksum_from}
use Rattle.register.specs.Steps.Parts.{part}
use Rattle.register.proofs.Register.{bit-low, bit-xor, steps-xor, steps-add, steps-last}
use Rattle.register.proofs.Row.{checksum-more, checksum-last}

-- ---- the polynomial

-- x + 1
both : ℕ → ℕ
both r = bit_xor r (bit_step r)

-- x^9 + x^8 + x + 1
far : ℕ → ℕ
far r = bit_xor (both r) (bit_steps 8 (both r))

-- x^11 + x^10 + x^4 + x^3 + x^2
leaps : ℕ → ℕ
leaps r = bit_step (bit_step (bit_xor (far r) (bit_step (bit_step r))))

both-xor : (a b : ℕ) → both (bit_xor a b) ≡ bit_xor (both a) (both b)
unfolding both
both-xor a b = ap (bit_xor (bit_xor a b)) (bit-xor a b) ∙ xor-cross a b (bit_step a) (bit_step b)

far-xor : (a b : ℕ) → far (bit_xor a b) ≡ bit_xor (far a) (far b)
unfolding far
far-xor a b =
    ap (λ (n : ℕ). bit_xor n (bit_steps 8 n)) (both-xor a b)
    ∙ ap (bit_xor (bit_xor (both a) (both b))) (steps-xor 8 (both a) (both b))
    ∙ xor-cross (both a) (both b) (bit_steps 8 (both a)) (bit_steps 8 (both b))

twice-xor : (a b : ℕ) → bit_step (bit_step (bit_xor a b)) ≡ bit_xor (bit_step (bit_step a)) (bit_step (bit_step b))
twice-xor a b = ap bit_step (bit-xor a b) ∙ bit-xor (bit_step a) (bit_step b)

leaps-xor : (a b : ℕ) → leaps (bit_xor a b) ≡ bit_xor (leaps a) (leaps b)
unfolding leaps
leaps-xor a b =
    let twice : ℕ → ℕ = λ r. bit_step (bit_step r) in
    ap twice (ap₂ bit_xor (far-xor a b) (twice-xor a b) ∙ xor-cross (far a) (far b) (twice a) (twice b))
    ∙ twice-xor (bit_xor (far a) (twice a)) (bit_xor (far b) (twice b))

both-step : (r : ℕ) → both (bit_step r) ≡ bit_step (both r)
unfolding both
both-step r = sym (bit-xor r (bit_step r))

far-step : (r : ℕ) → far (bit_step r) ≡ bit_step (far r)
unfolding far
far-step r =
    ap (λ (n : ℕ). bit_xor n (bit_steps 8 n)) (both-step r)
    ∙ ap (bit_xor (bit_step (both r))) (steps-last 8 (both r))
    ∙ sym (bit-xor (both r) (bit_steps 8 (both r)))

leaps-step : (r : ℕ) → leaps (bit_step r) ≡ bit_step (leaps r)
unfolding leaps
leaps-step r =
    ap (λ (n : ℕ). bit_step (bit_step n))
    (ap (λ (n : ℕ). bit_xor n (bit_step (bit_step (bit_step r)))) (far-step r) ∙ sym (bit-xor (far r) (bit_step (bit_step r))))

-- that x^192 and x^11 + x^10 + x^4 + x^3 + x^2 leave the same, computed for the lowest bit
leap-one : bit_steps 192 1 ≡ leaps 1
unfolding both far leaps bit_steps bit_step feedback
leap-one = refl

leap-none : bit_steps 192 0 ≡ leaps 0
unfolding both far leaps bit_steps bit_step feedback
leap-none = refl

leap-digit : (r : ℕ) → bit_steps 192 (r % 2) ≡ leaps (r % 2)
leap-digit r = ⊎_elim (λ e. rw e leap-none) (λ e. rw e leap-one) (digit-of r)

-- and so for every register of up to sixteen bits
leap-below : (n r : ℕ) → n ≤ 16 → r < 2 ^ n → bit_steps 192 r ≡ leaps r
leap-below zero r hn h = let none : r ≡ 0 = omega arith in rw none leap-none
leap-below (suc n) r hn h =
    let half = r / 2 in
    let low : half < 2 ^ n = omega (arith, pow-succ' 2 n) in
    let upper : bit_step half ≡ half * 2 ^ 1 = bit-low half (below_top n half (omega arith) low) in
    let parted : r ≡ bit_xor (bit_step half) (r % 2) =
    sym (ap (λ (m : ℕ). bit_xor m (r % 2)) upper ∙ xor_shifted half 1 (r % 2) (mod-lt r two_pos) ∙ (let whole : half * 2 ^ 1 + r % 2 ≡ r = omega arith in whole)) in
    ap (bit_steps 192) parted
    ∙ steps-xor 192 (bit_step half) (r % 2)
    ∙ ap₂ bit_xor (steps-last 192 half ∙ ap bit_step (leap-below n half (omega arith) low) ∙ sym (leaps-step half)) (leap-digit r)
    ∙ sym (leaps-xor (bit_step half) (r % 2))
    ∙ ap leaps (sym parted)
  where
    below_top : (n half : ℕ) → n ≤ 15 → half < 2 ^ n → half < 2 ^ 15
    below_top n half l h = lt_of_lt_of_le h (pow-le-pow_right two_pos l)

leap : (r : ℕ) → r < 2 ^ 16 → leaps r ≡ bit_steps 192 r
leap r h = sym (leap-below 16 r (omega arith) h)

-- a byte of zeros only moves the register
zeros-move : (r : ℕ) → byte_step r 0 ≡ bit_steps 8 r
unfolding byte_step
zeros-move r = ap (bit_steps 8) (xor_zero_r r)

-- the same, one step after the other
pub leaps-by-steps : (r : ℕ) {once late twice first last : ℕ} → r < 2 ^ 16 → once ≡ bit_step r → late ≡ byte_step (bit_xor r once) 0 → twice ≡ bit_step once
    → first ≡ bit_step (bit_xor (bit_xor (bit_xor r once) late) twice) → last ≡ bit_step first → last ≡ bit_steps 192 r
unfolding both far leaps
leaps-by-steps r {once} h e₁ e₂ e₃ e₄ e₅ =
    e₅
    ∙ ap bit_step (e₄ ∙ ap bit_step (ap₂ (λ (m n : ℕ). bit_xor (bit_xor (bit_xor r once) m) n) (e₂ ∙ zeros-move (bit_xor r once)) e₃
    ∙ ap (λ (n : ℕ). bit_xor (bit_xor (bit_xor r n) (bit_steps 8 (bit_xor r n))) (bit_step n)) e₁))
    ∙ leap r h

-- ---- parts put together

-- what a byte leaves, beside the register that it found
byte-apart : (r b : ℕ) → byte_step r b ≡ bit_xor (bit_steps 8 r) (byte_step 0 b)
unfolding byte_step
byte-apart r b =
    steps-xor 8 r (b * 2 ^ 8)
    ∙ ap (λ (n : ℕ). bit_xor (bit_steps 8 r) (bit_steps 8 n)) (sym (xor_comm 0 (b * 2 ^ 8) ∙ xor_zero_r (b * 2 ^ 8)))

-- and a row of bytes
row_apart : (r : ℕ) (s : List ℕ) → checksum_from r s ≡ bit_xor (bit_steps (8 * length s) r) (checksum_from 0 s)
unfolding checksum_from bit_steps
row_apart r [] = sym (xor_zero_r r)
row_apart r (b ∷ s) =
    let n = 8 * length s in
    let q = byte_step 0 b in
    let moved : bit_steps n (bit_steps 8 r) ≡ bit_steps (8 * suc (length s)) r =
    sym (steps-add 8 n r) ∙ ap (λ (k : ℕ). bit_steps k r) (let e : 8 + n ≡ 8 * suc (length s) = omega arith in e) in
    ap (λ (p : ℕ). checksum_from p s) (byte-apart r b)
    ∙ row_apart (bit_xor (bit_steps 8 r) q) s
    ∙ ap (λ (m : ℕ). bit_xor m (checksum_from 0 s)) (steps-xor n (bit_steps 8 r) q)
    ∙ xor_assoc (bit_steps n (bit_steps 8 r)) (bit_steps n q) (checksum_from 0 s)
    ∙ ap₂ bit_xor moved (sym (row_apart q s))

-- no byte yet
pub none-taken : (r : ℕ) (s : List ℕ) (i : ℕ) → r ≡ part 0 r s i
unfolding part checksum_from
none-taken r s i = refl

-- one byte more
pub one_more : (k r : ℕ) (s : List ℕ) (i j : ℕ) {before after : ℕ} → j ≡ i + k → i + k < length s → before ≡ part k r s i
    → after ≡ byte_step before (get_or s j 0) → after ≡ part (k + 1) r s i
unfolding part
one_more k r s i j place h found taken =
    taken ∙ ap₂ (λ (q n : ℕ). byte_step q (get_or s n 0)) found place ∙ checksum-last k i r s h

-- the parts before one, moved past it, and that one
pub part-joins : (n r : ℕ) (s : List ℕ) (i : ℕ) {before moved alone : ℕ} → i + n + 24 ≤ length s → before ≡ part n r s i → moved ≡ bit_steps 192 before
    → alone ≡ part 24 0 s (i + n) → bit_xor moved alone ≡ part (n + 24) r s i
unfolding part
part-joins n r s i {before} h found past left =
    let bytes = take 24 (drop (i + n) s) in
    let many : 8 * length bytes ≡ 192 = ap (λ (k : ℕ). 8 * k) (length-take-le 24 (drop (i + n) s) (omega (arith, length-drop (i + n) s))) in
    ap₂ bit_xor past left
    ∙ ap (λ (k : ℕ). bit_xor (bit_steps k before) (checksum_from 0 bytes)) (sym many)
    ∙ sym (row_apart before bytes)
    ∙ ap₂ (λ (q : ℕ) (t : List ℕ). checksum_from q (take 24 t)) found (sym (drop-drop n i s))
    ∙ checksum-more 24 n r (drop i s)
