-- A buffer that starts at a bit of the data, wherever in a byte that is. It holds of every format.
-- Assumes nothing.
use mathlib.Core.Path.{◌≡◌, refl, sym, ap, subst, ◌∙◌}
use mathlib.Core.Logic.{by_cases}
use mathlib.Core.List.{List, ◌++◌, append_assoc}
use Prim.Native.Nat.{ℕ, ◌+◌, ◌-◌, ◌*◌, ◌/◌, ◌%◌, ◌^◌, ◌≤◌, ◌<◌}
use native.Mathlib.Decide.{dec_lt, dec_le}
use native.Mathlib.Nat.{mod-lt, zero-lt-suc, zero-add}
use native.Mathlib.Omega.{arith}
use lib.Dec.{lit≤}
use lib.ListN.{length, take, drop, get_or, replicate, length-append, length-drop}
use lib.Pow.{field, shl-shr, shr-shr}
use lib.Seq.{take_at, drop_at, drop-drop, take-append-le}
use Rattle.bits.specs.Row.{bits}
use Rattle.codes.specs.Steps.BitBuffer.{ahead, Window}
use Rattle.codes.specs.Chain.{Fill}
use Rattle.codes.specs.Pack.{low}
use Rattle.codes.specs.Steps.EightBytes.{eight_at}
use Rattle.bit_buffer.specs.declared.Buffer.{Buffer}
use Rattle.codes.proofs.BitBuffer.{ahead-byte, ahead-last}
use Rattle.codes.proofs.LowBits.{length-low, low-mod, low-add}
use Rattle.codes.proofs.BitsInBytes.{length-bits, drop_bits}
use Rattle.codes.proofs.EightBytes.{eight-bits}
use Rattle.pseudo_binary_reader.specs.Steps.Taken.{Starts, Nine, Top}

module _ (s : List ℕ) (held have next : ℕ) where
  -- how much there is
  pub length-ahead : length (ahead s held have next) ≡ have + 8 * (length s - next)
  unfolding ahead
  length-ahead =
      omega (
        arith,
        length-append (low have held) (bits (drop next s)),
        length-low have held,
        length-bits (drop next s),
        length-drop next s,
      )

  -- the next w bits
  pub ahead-split : (w : ℕ) → w ≤ have → ahead s held have next ≡ low w (held / 2 ^ (have - w)) ++ ahead s held (have - w) next
  unfolding ahead
  ahead-split w h =
      ap (λ (l : List ℕ). l ++ bits (drop next s))
      (ap (λ (n : ℕ). low n held) (let e : have ≡ w + (have - w) = omega arith in e) ∙ low-add w (have - w) held)
      ∙ append_assoc (low w (held / 2 ^ (have - w))) (low (have - w) held) (bits (drop next s))

  pub ahead-drop : (w : ℕ) → w ≤ have → ahead s held (have - w) next ≡ drop w (ahead s held have next)
  ahead-drop w h =
      sym
      (ap (drop w) (ahead-split w h)
      ∙ drop_at (low w (held / 2 ^ (have - w))) (ahead s held (have - w) next) w (length-low w (held / 2 ^ (have - w))))

  -- from a byte to the r-th bit after its start
  pub ahead-from : (q r : ℕ) → r ≤ have → ahead s held have next ≡ bits (drop q s) → ahead s held (have - r) next ≡ drop (q * 8 + r) (bits s)
  ahead-from q r h e =
      ahead-drop r h ∙ ap (drop r) (e ∙ sym (drop_bits q s)) ∙ drop-drop r (q * 8) (bits s)

  -- from the byte that bit `at` is in to the bit
  pub ahead-at : (at : ℕ) → at % 8 ≤ have → ahead s held have next ≡ bits (drop (at / 8) s)
      → ahead s held (have - at % 8) next ≡ drop at (bits s)
  ahead-at at h e =
      ahead-from (at / 8) (at % 8) h e ∙ ap (λ (n : ℕ). drop n (bits s)) (let x : at / 8 * 8 + at % 8 ≡ at = omega arith in x)

-- the n bits from bit `at` on
pub ahead-part : (s : List ℕ) (held have next q r at n shift : ℕ) → ahead s held have next ≡ bits (drop q s) → q * 8 + r ≡ at
    → shift + n + r ≡ have → low n (held / 2 ^ shift) ≡ take n (drop at (bits s))
ahead-part s held have next q r at n shift e place size =
    let part : List ℕ = low n (held / 2 ^ (have - r - n)) in
    let rest : List ℕ = ahead s held (have - r - n) next in
    ap (λ (j : ℕ). low n (held / 2 ^ j)) (let x : shift ≡ have - r - n = omega arith in x)
    ∙ sym (take_at part rest n (length-low n (held / 2 ^ (have - r - n))))
    ∙ ap (take n) (sym (ahead-split s held (have - r) next n (omega arith)) ∙ ahead-from s held have next q r (omega arith) e)
    ∙ ap (λ (j : ℕ). take n (drop j (bits s))) place

-- an empty buffer
pub ahead_none : (s : List ℕ) (next : ℕ) → ahead s 0 0 next ≡ bits (drop next s)
unfolding ahead low
ahead_none s next = refl

-- one byte in a buffer, and two
pub ahead-one : (s : List ℕ) (q : ℕ) → q < length s → get_or s q 0 < 256 → ahead s (get_or s q 0) 8 (q + 1) ≡ bits (drop q s)
ahead-one s q h k = ap (λ (x : ℕ). ahead s x 8 (q + 1)) (sym (zero-add (get_or s q 0))) ∙ ahead-byte s 0 0 q h k ∙ ahead_none s q

pub ahead-two : (s : List ℕ) (q : ℕ) → q + 1 < length s → ((i : ℕ) → get_or s i 0 < 256)
    → ahead s (get_or s q 0 * 256 + get_or s (q + 1) 0) 16 (q + 2) ≡ bits (drop q s)
ahead-two s q h bytes =
    ap (λ (n : ℕ). ahead s (get_or s q 0 * 256 + get_or s (q + 1) 0) 16 n) (let e : q + 2 ≡ q + 1 + 1 = omega arith in e)
    ∙ ahead-byte s (get_or s q 0) 8 (q + 1) h (bytes (q + 1)) ∙ ahead-one s q (omega arith) (bytes q)

-- the nine bits from bit `at` on, out of the two bytes from the one that it is in
pub nine-part : (s : List ℕ) (held at shift : ℕ) → at / 8 + 1 < length s → ahead s held 16 (at / 8 + 2) ≡ bits (drop (at / 8) s)
    → shift + at % 8 ≡ 7 → Nine (drop at (bits s)) (held / 2 ^ shift % 512)
nine-part s held at shift h e size = record {
  nine = low-mod 9 0 (held / 2 ^ shift)
      ∙ ahead-part s held 16 (at / 8 + 2) (at / 8) (at % 8) at 9 shift e (omega arith) (omega arith)
      ∙ sym (take-append-le 9 (drop at (bits s)) (replicate 9 1) (omega (arith, length-drop at (bits s), length-bits s)));
  small = mod-lt (held / 2 ^ shift) (zero-lt-suc 511);
}

-- the bits from bit `at` on at the top of 64, out of the eight bytes from the one that it is in
pub top-word : (s : List ℕ) (at x : ℕ) → at / 8 + 8 ≤ length s → ((i : ℕ) → get_or s i 0 < 256) → x ≡ eight_at s (at / 8)
    → Top (drop at (bits s)) (x * 2 ^ (at % 8) % 2 ^ 64)
unfolding ahead
top-word s at x h bytes e j n l =
    let q : ℕ = at / 8 in
    let r : ℕ = at % 8 in
    let k : ℕ = 64 - (j + n) in
    ap (λ (m : ℕ). low n (x * 2 ^ r % 2 ^ m / 2 ^ k)) (let d : 64 ≡ j + n + k = omega arith in d)
    ∙ ap (low n) (field (x * 2 ^ r) (j + n) k)
    ∙ low-mod n j (x * 2 ^ r / 2 ^ k)
    ∙ ap (λ (m : ℕ). low n (x * 2 ^ r / 2 ^ m)) (let d : k ≡ r + (k - r) = omega arith in d)
    ∙ ap (low n) (sym (shr-shr (x * 2 ^ r) r (k - r)) ∙ ap (λ (y : ℕ). y / 2 ^ (k - r)) (shl-shr x r ∙ e))
    ∙ ahead-part s (eight_at s q) 64 (q + 8) q (r + j) (at + j) n (k - r) (eight-bits s q h bytes) (omega arith) (omega arith)
    ∙ ap (take n) (sym (drop-drop j at (bits s)))

-- the first nine of them
pub top-nine : (bs : List ℕ) (x : ℕ) → 9 ≤ length bs → x < 2 ^ 64 → Top bs x → Nine bs (x / 2 ^ 55)
top-nine bs x h small top = record {
  nine = top 0 9 (lit≤ tt) ∙ sym (take-append-le 9 bs (replicate 9 1) h);
  small = omega arith;
}

module _ (s : List ℕ) (at : ℕ) (b : Buffer) (h : Starts s at b) (inside : at ≤ length s * 8) where
  pub starts-left : b.have + 8 * (length s - b.next) ≡ length s * 8 - at
  starts-left =
      omega (arith, ap length h.same, length-ahead s b.held b.have b.next, length-drop at (bits s), length-bits s)

  -- where it holds eight bits or fewer, it holds all
  starts-last : b.have ≤ 8 → length s ≤ b.next
  starts-last few = by_cases (dec_lt b.next (length s)) (λ l. omega (arith, h.enough l)) (λ l. omega arith)

  pub starts-all : b.have ≤ 8 → low b.have b.held ≡ drop at (bits s)
  starts-all few = sym (ahead-last s b.held b.have b.next (starts-last few)) ∙ h.same

  -- what it holds is a fill exactly where what follows the bit is
  pub starts-fill : Fill 7 (low b.have b.held) → Fill 7 (drop at (bits s))
  starts-fill f = subst (Fill 7) (starts-all (omega (arith, f.few, length-low b.have b.held))) f

  pub starts-no-fill : (Fill 7 (low b.have b.held) → ⊥) → Fill 7 (drop at (bits s)) → ⊥
  starts-no-fill none f =
      none (subst (Fill 7) (sym (starts-all (omega (arith, f.few, length-drop at (bits s), length-bits s, starts-left)))) f)

  -- the window is the next nine bits
  pub starts-nine : (w : ℕ) → Window b.held b.have w → Nine (drop at (bits s)) w
  unfolding ahead
  starts-nine w v =
      let ones : List ℕ = replicate 9 1 in
      let held : List ℕ = low b.have b.held in
      let left : List ℕ = drop at (bits s) in
      let same : take 9 (held ++ ones) ≡ take 9 (left ++ ones) =
      by_cases (dec_le 9 b.have)
      (λ l.
      take-append-le 9 held ones (omega (arith, length-low b.have b.held))
      ∙ sym (take-append-le 9 held (bits (drop b.next s)) (omega (arith, length-low b.have b.held)))
      ∙ ap (take 9) h.same
      ∙ sym (take-append-le 9 left ones (omega (arith, starts-left, length-drop at (bits s), length-bits s))))
      (λ l. ap (λ (r : List ℕ). take 9 (r ++ ones)) (starts-all (omega arith))) in
      record { nine = v.nine ∙ same; small = v.small }
