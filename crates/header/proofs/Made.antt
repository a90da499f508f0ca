-- Headers that are made of fields: they are valid, their fields read back, and every valid header is made of its fields.
-- Assumes nothing.
use mathlib.Core.Path.{◌≡◌, refl, sym, ap, ap₂, ◌∙◌, subst}
use mathlib.Core.Bool.{Bool, true, false}
use mathlib.Core.Logic.{◌⊎◌, inl, inr}
use Prim.Native.Nat.{ℕ, ◌+◌, ◌*◌, ◌/◌, ◌%◌, ◌^◌, ◌<◌}
use native.Mathlib.Nat.{mod-lt, div-one, zero-lt-suc}
use native.Mathlib.Omega.{arith}
use lib.Count.{ones_in}
use lib.Dec.{eqb}
use lib.Pow.{field, mod-mod-pow, split, pow_pos, shr-shr, mod-pow-add}
use Rattle.bits.proofs.Ones.{ones_split, ones_low}
use Rattle.bits.proofs.Xor.{digit, digit-of}
use Rattle.header.specs.declared.Header.{Header}
use Rattle.header.specs.Check.{check_of}
use Rattle.header.specs.Flag.{flag_bits, spare_in, sync_in, extended_type_in, message_type_in, Odd, parity_for}
use Rattle.header.specs.Steps.Differences.{WithParity}
use Rattle.header.specs.Valid.{Valid, flag_in, length_in, check_in, information_in}
use Rattle.header.specs.Fields.{Fit, fields_in, low_flag, one_if, header_of}
use Rattle.header.proofs.Division.{check-lt}

-- ---- the flag

pub one_if-lt : (b : Bool) → one_if b < 2
one_if-lt true = omega arith
one_if-lt false = omega arith

pub low-flag-lt : (f : Header) → Fit f → low_flag f < 2 ^ 7
unfolding low_flag
low-flag-lt f fit = omega (arith, one_if-lt f.sync, one_if-lt f.spare)

-- a flag of parity p over seven bits has the ones of both
flag-ones : (p low : ℕ) → p < 2 → low < 2 ^ 7 → ones_in 8 (p * 2 ^ 7 + low) ≡ ones_in 7 low + p
unfolding ones_in
flag-ones p low hp hl =
    ones_split 7 1 (p * 2 ^ 7 + low)
    ∙ ap₂ (λ (x y : ℕ). x + y)
    (sym (ones_low 7 (p * 2 ^ 7 + low)) ∙ ap (ones_in 7) (let e : (p * 2 ^ 7 + low) % 2 ^ 7 ≡ low = omega arith in e))
    (let e : ones_in 1 ((p * 2 ^ 7 + low) / 2 ^ 7) ≡ p = omega arith in e)

evens : (n : ℕ) → (n + (n + 1) % 2) % 2 ≡ 1
evens n = pick (digit-of n)
  where
    pick : (n % 2 ≡ 0) ⊎ (n % 2 ≡ 1) → (n + (n + 1) % 2) % 2 ≡ 1
    pick (inl e) = omega arith
    pick (inr e) = omega arith

pub parity-lt : (low : ℕ) → parity_for low < 2
unfolding parity_for
parity-lt low = mod-lt (ones_in 7 low + 1) (zero-lt-suc 1)

pub parity-odd : (low : ℕ) → low < 2 ^ 7 → Odd (parity_for low * 2 ^ 7 + low)
unfolding Odd parity_for
parity-odd low h =
    let p : (ones_in 7 low + 1) % 2 < 2 = mod-lt (ones_in 7 low + 1) (zero-lt-suc 1) in
    let e : ones_in 8 ((ones_in 7 low + 1) % 2 * 2 ^ 7 + low) ≡ ones_in 7 low + (ones_in 7 low + 1) % 2 = flag-ones ((ones_in 7 low + 1) % 2) low p h in
    ap (λ (n : ℕ). n % 2) e ∙ evens (ones_in 7 low)

-- the information bits stand together
pub information-in : (h : ℕ) → information_in h ≡ h / 2 ^ 10 % 2 ^ 21
unfolding information_in flag_in length_in
information-in h = ap (λ (n : ℕ). n % 2 ^ 7 * 2 ^ 14 + h / 2 ^ 10 % 2 ^ 14) (sym (shr-shr h 10 14)) ∙ sym (mod-pow-add (h / 2 ^ 10) 7 14)

-- ---- a header out of its three parts

record Parts (h flag length check : ℕ) : Type 0 where
  flagged : flag_in h ≡ flag
  long : length_in h ≡ length
  checked : check_in h ≡ check
  bits : h < 2 ^ 32

parts : (flag length check : ℕ) → flag < 2 ^ 8 → length < 2 ^ 14 → check < 2 ^ 10
    → Parts (flag * 2 ^ 24 + length * 2 ^ 10 + check) flag length check
unfolding flag_in length_in check_in
parts flag length check hf hl hc =
    record { flagged = omega arith; long = omega arith; checked = omega arith; bits = omega arith }

flag_of : Header → ℕ
flag_of f = parity_for (low_flag f) * 2 ^ 7 + low_flag f

flag-lt : (f : Header) → Fit f → flag_of f < 2 ^ 8
unfolding flag_of parity_for
flag-lt f fit = omega (arith, low-flag-lt f fit)

flag-low : (f : Header) → Fit f → flag_of f % 2 ^ 7 ≡ low_flag f
unfolding flag_of
flag-low f fit = omega (arith, low-flag-lt f fit)

information-lt : (f : Header) → Fit f → low_flag f * 2 ^ 14 + f.length < 2 ^ 21
information-lt f fit = omega (arith, low-flag-lt f fit, fit.length)

made : (f : Header) → Fit f → Parts (header_of f) (flag_of f) f.length (check_of (low_flag f * 2 ^ 14 + f.length))
unfolding header_of flag_of
made f fit =
    parts (flag_of f) f.length (check_of (low_flag f * 2 ^ 14 + f.length)) (flag-lt f fit) fit.length
    (check-lt (low_flag f * 2 ^ 14 + f.length) (information-lt f fit))

flag-in-lt : (h : ℕ) → h < 2 ^ 32 → flag_in h < 2 ^ 8
unfolding flag_in
flag-in-lt h lt = omega arith

-- ---- every header that is made of fields is valid

made-information : (f : Header) → Fit f → information_in (header_of f) ≡ low_flag f * 2 ^ 14 + f.length
unfolding information_in
made-information f fit =
    ap₂ (λ (x y : ℕ). x % 2 ^ 7 * 2 ^ 14 + y) (made f fit).flagged (made f fit).long
    ∙ ap (λ (n : ℕ). n * 2 ^ 14 + f.length) (flag-low f fit)

pub made-valid : (f : Header) → Fit f → Valid (header_of f)
unfolding flag_of
made-valid f fit =
    record {
      bits = (made f fit).bits;
      checked = (made f fit).checked ∙ ap check_of (sym (made-information f fit));
      parity = subst Odd (sym (made f fit).flagged) (parity-odd (low_flag f) (low-flag-lt f fit));
    }

-- ---- and its fields read back

told : (b : Bool) → eqb (one_if b) 1 ≡ b
told true = refl
told false = refl

module _ (f : Header) (fit : Fit f) where
  message-back : message_type_in (flag_of f) ≡ f.message_type
  unfolding flag_of message_type_in flag_bits low_flag
  message-back = omega (arith, fit.message_type, fit.extended_type, one_if-lt f.sync, one_if-lt f.spare)

  extended-back : extended_type_in (flag_of f) ≡ f.extended_type
  unfolding flag_of extended_type_in flag_bits low_flag
  extended-back = omega (arith, fit.message_type, fit.extended_type, one_if-lt f.sync, one_if-lt f.spare)

  sync-back : sync_in (flag_of f) ≡ one_if f.sync
  unfolding flag_of sync_in flag_bits low_flag
  sync-back = omega (arith, one_if-lt f.sync, one_if-lt f.spare)

  spare-back : spare_in (flag_of f) ≡ one_if f.spare
  unfolding flag_of spare_in flag_bits low_flag
  spare-back = omega (arith, one_if-lt f.sync, one_if-lt f.spare)

  pub made-reads-back : fields_in (header_of f) ≡ f
  unfolding fields_in
  made-reads-back =
      let flagged = (made f fit).flagged in
      λ i.
      record {
        message_type = (ap message_type_in flagged ∙ message-back) i;
        extended_type = (ap extended_type_in flagged ∙ extended-back) i;
        sync = (ap (λ (n : ℕ). eqb (sync_in n) 1) flagged ∙ ap (λ (n : ℕ). eqb n 1) sync-back ∙ told f.sync) i;
        spare = (ap (λ (n : ℕ). eqb (spare_in n) 1) flagged ∙ ap (λ (n : ℕ). eqb n 1) spare-back ∙ told f.spare) i;
        length = (made f fit).long i;
      }

-- ---- the fields of a valid header make it again

asked : (n : ℕ) → n < 2 → one_if (eqb n 1) ≡ n
asked n h = pick (digit n h)
  where
    pick : (n ≡ 0) ⊎ (n ≡ 1) → one_if (eqb n 1) ≡ n
    pick (inl e) = subst (λ (m : ℕ). one_if (eqb m 1) ≡ m) (sym e) refl
    pick (inr e) = subst (λ (m : ℕ). one_if (eqb m 1) ≡ m) (sym e) refl

seven : (n : ℕ) → n / 2 ^ 5 % 2 ^ 2 * 2 ^ 5 + n / 2 ^ 2 % 2 ^ 3 * 2 ^ 2 + n / 2 ^ 1 % 2 * 2 + n / 2 ^ 0 % 2 ≡ n % 2 ^ 7
seven n = omega (arith, mod-pow-add n 2 5, mod-pow-add n 3 2, mod-pow-add n 1 1, ap (λ (m : ℕ). m % 2) (div-one n))

low-back : (h : ℕ) → low_flag (fields_in h) ≡ flag_in h % 2 ^ 7
unfolding low_flag fields_in message_type_in extended_type_in sync_in spare_in flag_bits
low-back h =
    let flag = flag_in h in
    ap₂ (λ (x y : ℕ). flag / 2 ^ 5 % 2 ^ 2 * 2 ^ 5 + flag / 2 ^ 2 % 2 ^ 3 * 2 ^ 2 + x * 2 + y)
    (asked (flag / 2 ^ 1 % 2) (mod-lt (flag / 2 ^ 1) (zero-lt-suc 1)))
    (asked (flag / 2 ^ 0 % 2) (mod-lt (flag / 2 ^ 0) (zero-lt-suc 1)))
    ∙ seven flag

odd-other : (n top : ℕ) → top < 2 → (n + top) % 2 ≡ 1 → (n + 1) % 2 ≡ top
odd-other n top h e = pick (digit-of n)
  where
    pick : (n % 2 ≡ 0) ⊎ (n % 2 ≡ 1) → (n + 1) % 2 ≡ top
    pick (inl z) = omega arith
    pick (inr o) = omega arith

parity-back : (flag : ℕ) → flag < 2 ^ 8 → Odd flag → parity_for (flag % 2 ^ 7) * 2 ^ 7 + flag % 2 ^ 7 ≡ flag
unfolding Odd parity_for
parity-back flag h odd =
    let whole : flag / 2 ^ 7 * 2 ^ 7 + flag % 2 ^ 7 ≡ flag = omega arith in
    let top : flag / 2 ^ 7 < 2 = omega arith in
    let counted : ones_in 8 flag ≡ ones_in 7 (flag % 2 ^ 7) + flag / 2 ^ 7 =
    ap (ones_in 8) (sym whole) ∙ flag-ones (flag / 2 ^ 7) (flag % 2 ^ 7) top (mod-lt flag (pow_pos 7)) in
    ap (λ (n : ℕ). n * 2 ^ 7 + flag % 2 ^ 7)
    (odd-other (ones_in 7 (flag % 2 ^ 7)) (flag / 2 ^ 7) top (ap (λ (n : ℕ). n % 2) (sym counted) ∙ odd))
    ∙ whole

three : (h : ℕ) → flag_in h * 2 ^ 24 + length_in h * 2 ^ 10 + check_in h ≡ h
unfolding flag_in length_in check_in
three h = omega (arith, mod-pow-add h 14 10)

-- the fields of a word hold its information bits, so the header that is made of them has these
informed : (h : ℕ) → low_flag (fields_in h) * 2 ^ 14 + (fields_in h).length ≡ information_in h
unfolding information_in fields_in
informed h = ap (λ (n : ℕ). n * 2 ^ 14 + length_in h) (low-back h)

pub fields_fit : (h : ℕ) → Fit (fields_in h)
unfolding fields_in message_type_in extended_type_in flag_bits length_in
fields_fit h =
    record {
      message_type = mod-lt (flag_in h / 2 ^ 5) (pow_pos 2);
      extended_type = mod-lt (flag_in h / 2 ^ 2) (pow_pos 3);
      length = mod-lt (h / 2 ^ 10) (pow_pos 14);
    }

pub information-back : (h : ℕ) → information_in (header_of (fields_in h)) ≡ information_in h
information-back h = made-information (fields_in h) (fields_fit h) ∙ informed h

-- every valid header is made of its fields: there are no others
pub valid-made : (h : ℕ) → Valid h → header_of (fields_in h) ≡ h
unfolding header_of information_in fields_in
valid-made h v =
    ap₂ (λ (x y : ℕ). x * 2 ^ 24 + (fields_in h).length * 2 ^ 10 + check_of y) flagged (informed h)
    ∙ ap (λ (n : ℕ). flag_in h * 2 ^ 24 + length_in h * 2 ^ 10 + n) (sym v.checked)
    ∙ whole
  where
    flagged : parity_for (low_flag (fields_in h)) * 2 ^ 7 + low_flag (fields_in h) ≡ flag_in h
    flagged = ap (λ (n : ℕ). parity_for n * 2 ^ 7 + n) (low-back h) ∙ parity-back (flag_in h) (flag-in-lt h v.bits) v.parity

    whole : flag_in h * 2 ^ 24 + length_in h * 2 ^ 10 + check_in h ≡ h
    whole = three h

-- the parity bit tells nothing that the others do not: with the right parity, a word is one word
pub one-parity : (word v w : ℕ) → v < 2 ^ 32 → w < 2 ^ 32 → WithParity word v → WithParity word w → v ≡ w
unfolding flag_in
one-parity word v w hv hw pv pw =
    let e : v % 2 ^ 31 ≡ w % 2 ^ 31 = pv.low ∙ sym pw.low in
    sym (split v 24)
    ∙ ap₂ (λ (x y : ℕ). x * 2 ^ 24 + y)
    (sym (parity-back (v / 2 ^ 24) (flag-in-lt v hv) pv.odd)
    ∙ ap (λ (n : ℕ). parity_for n * 2 ^ 7 + n) (sym (field v 7 24) ∙ ap (λ (n : ℕ). n / 2 ^ 24) e ∙ field w 7 24)
    ∙ parity-back (w / 2 ^ 24) (flag-in-lt w hw) pw.odd)
    (sym (mod-mod-pow v 7 24) ∙ ap (λ (n : ℕ). n % 2 ^ 24) e ∙ mod-mod-pow w 7 24)
    ∙ split w 24

-- so two valid headers that agree in the others are the same
pub valid-low : (v w : ℕ) → Valid v → Valid w → v % 2 ^ 31 ≡ w % 2 ^ 31 → v ≡ w
valid-low v w hv hw e =
    one-parity w v w hv.bits hw.bits (record { odd = hv.parity; low = e }) (record { odd = hw.parity; low = refl })

-- and so are two that agree in the information bits
pub one-of-information : (v w : ℕ) → Valid v → Valid w → information_in v ≡ information_in w → v ≡ w
unfolding check_in
one-of-information v w hv hw e =
    valid-low v w hv hw (low v hv ∙ ap (λ (n : ℕ). n * 2 ^ 10 + check_of n) e ∙ sym (low w hw))
  where
    low : (h : ℕ) → Valid h → h % 2 ^ 31 ≡ information_in h * 2 ^ 10 + check_of (information_in h)
    low h v = mod-pow-add h 21 10 ∙ ap₂ (λ (x y : ℕ). x * 2 ^ 10 + y) (sym (information-in h)) v.checked
