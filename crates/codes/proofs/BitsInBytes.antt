-- Bits in bytes and back; the fill up to the byte's end; the data that entries are written as.
-- Assumes nothing.
use mathlib.Core.Path.{◌≡◌, refl, sym, ap, ap₂, subst, ◌∙◌}
use mathlib.Core.Bool.{Bool}
use mathlib.Core.List.{List, [], ◌∷◌, ◌++◌}
use Prim.Native.Nat.{ℕ, zero, suc, ◌+◌, ◌*◌, ◌/◌, ◌%◌, ◌^◌, ◌≤◌, ◌<◌}
use native.Mathlib.Nat.{mod-eq_of_lt}
use native.Mathlib.Omega.{arith}
use lib.Dec.{T, ltb, ltb→lt, lit<}
use lib.ListN.{length, take, drop, replicate, length-append, length-drop, length-replicate, take-append-drop}
use lib.Seq.{drop-nil, length-take-le, drop-append-add}
use Rattle.bits.specs.Row.{bits, Bytes}
use Rattle.bits.specs.Word.{bit}
use Rattle.codes.specs.Chain.{Entry, Scheme, state_after, Row, codes, texts, bits_in, Built}
use Rattle.codes.specs.Pack.{Binary, low, value, bytes, packed, gap, filled, written}
use Rattle.bits.proofs.Said.{and_left, and_right}
use Rattle.codes.proofs.EveryElement.{every, every-at}
use Rattle.codes.proofs.Fill.{ones_fill}
use Rattle.codes.proofs.LowBits.{length-low, low-binary, value_low, value-lt, low_value}

-- rows of bits
pub binary-append : (a b : List ℕ) → Binary a → Binary b → Binary (a ++ b)
binary-append [] b ha hb = hb
binary-append (x ∷ a) b ha hb = (ha.0, binary-append a b ha.1 hb)

pub binary-take : (n : ℕ) (a : List ℕ) → Binary a → Binary (take n a)
binary-take zero a h = tt
binary-take (suc n) [] h = tt
binary-take (suc n) (x ∷ a) h = (h.0, binary-take n a h.1)

pub binary-drop : (n : ℕ) (a : List ℕ) → Binary a → Binary (drop n a)
binary-drop zero a h = h
binary-drop (suc n) [] h = tt
binary-drop (suc n) (x ∷ a) h = binary-drop n a h.1

pub binary-ones : (n : ℕ) → Binary (replicate n 1)
binary-ones zero = tt
binary-ones (suc n) = (lit< tt, binary-ones n)

-- a byte is its eight lowest bits
pub bits-cons : (b : ℕ) (s : List ℕ) → bits (b ∷ s) ≡ low 8 b ++ bits s
unfolding bits low bit
bits-cons b s = refl

pub length-bits : (s : List ℕ) → length (bits s) ≡ length s * 8
unfolding bits
length-bits [] = refl
length-bits (b ∷ s) = omega (arith, length-bits s)

-- a whole number of bytes is dropped
pub drop_bits : (q : ℕ) (s : List ℕ) → drop (q * 8) (bits s) ≡ bits (drop q s)
unfolding bits
drop_bits zero s = refl
drop_bits (suc q) [] = drop-nil (suc q * 8)
drop_bits (suc q) (b ∷ s) =
    ap₂ (λ (n : ℕ) (l : List ℕ). drop n l) (let e : suc q * 8 ≡ length (low 8 b) + q * 8 = omega (arith, length-low 8 b) in e) (bits-cons b s)
    ∙ drop-append-add (low 8 b) (bits s) (q * 8) ∙ drop_bits q s

pub bits-binary : (s : List ℕ) → Binary (bits s)
unfolding bits
bits-binary [] = tt
bits-binary (b ∷ s) = subst Binary (sym (bits-cons b s)) (binary-append (low 8 b) (bits s) (low-binary 8 b) (bits-binary s))

low-eight : (bs : List ℕ) → Binary bs → length bs ≡ 8 → low 8 (value bs) ≡ bs
low-eight bs h e = ap (λ (n : ℕ). low n (value bs)) (sym e) ∙ low_value bs h

pub bits-bytes : (n : ℕ) (bs : List ℕ) → Binary bs → length bs ≡ n * 8 → bits (bytes n bs) ≡ bs
unfolding bytes bits
bits-bytes zero [] h e = refl
bits-bytes zero (b ∷ bs) h e = absurd (let no' : ⊥ = omega arith in no')
bits-bytes (suc n) bs h e =
    bits-cons (value (take 8 bs)) (bytes n (drop 8 bs))
    ∙ ap₂ (λ (x y : List ℕ). x ++ y)
    (low-eight (take 8 bs) (binary-take 8 bs h) (length-take-le 8 bs (omega arith)))
    (bits-bytes n (drop 8 bs) (binary-drop 8 bs h) (omega (arith, length-drop 8 bs)))
    ∙ take-append-drop 8 bs

pub length-bytes : (n : ℕ) (bs : List ℕ) → length (bytes n bs) ≡ n
unfolding bytes
length-bytes zero bs = refl
length-bytes (suc n) bs = ap suc (length-bytes n (drop 8 bs))

pub bytes-bytes : (n : ℕ) (bs : List ℕ) → Binary bs → length bs ≡ n * 8 → Bytes (bytes n bs)
unfolding bytes
bytes-bytes zero bs h e = tt
bytes-bytes (suc n) bs h e = (
  subst (λ (k : ℕ). value (take 8 bs) < 2 ^ k) (length-take-le 8 bs (omega arith)) (value-lt (take 8 bs) (binary-take 8 bs h)),
  bytes-bytes n (drop 8 bs) (binary-drop 8 bs h) (omega (arith, length-drop 8 bs)),
)

bytes_bits : (s : List ℕ) → Bytes s → bytes (length s) (bits s) ≡ s
unfolding bytes bits low bit
bytes_bits [] h = refl
bytes_bits (b ∷ s) h =
    ap₂ (λ (x : ℕ) (l : List ℕ). x ∷ l) (value_low 8 b ∙ mod-eq_of_lt h.0) (bytes_bits s h.1)

module _ (bs : List ℕ) where
  pub length-packed : length (packed bs) ≡ length bs / 8
  unfolding packed
  length-packed = length-bytes (length bs / 8) bs

  pub bits-packed : Binary bs → length bs % 8 ≡ 0 → bits (packed bs) ≡ bs
  unfolding packed
  bits-packed h e = bits-bytes (length bs / 8) bs h (omega arith)

  pub packed-bytes : Binary bs → length bs % 8 ≡ 0 → Bytes (packed bs)
  unfolding packed
  packed-bytes h e = bytes-bytes (length bs / 8) bs h (omega arith)

pub packed-bits : (s : List ℕ) → Bytes s → packed (bits s) ≡ s
unfolding packed
packed-bits s h =
    ap (λ (n : ℕ). bytes n (bits s)) (let e : length (bits s) / 8 ≡ length s = omega (arith, length-bits s) in e) ∙ bytes_bits s h

-- ones up to the byte's end
pub gap-few : (n : ℕ) → gap n ≤ 7
unfolding gap
gap-few n = omega arith

gap-whole : (n : ℕ) → n + gap n ≡ (n + 7) / 8 * 8
unfolding gap
gap-whole n = omega arith

pub filled-binary : (bs : List ℕ) → Binary bs → Binary (filled bs)
unfolding filled
filled-binary bs h = binary-append bs (replicate (gap (length bs)) 1) h (binary-ones (gap (length bs)))

pub length-filled : (bs : List ℕ) → length (filled bs) ≡ (length bs + 7) / 8 * 8
unfolding filled
length-filled bs =
    length-append bs (replicate (gap (length bs)) 1)
    ∙ ap (λ (n : ℕ). length bs + n) (length-replicate (gap (length bs)) 1)
    ∙ gap-whole (length bs)

pub filled-whole : (bs : List ℕ) → length (filled bs) % 8 ≡ 0
filled-whole bs = omega (arith, length-filled bs)

-- a row out of tables whose codes are bits, which a test computes
unfoldable pub binary : Entry → Bool
binary e = every (λ (b : ℕ). ltb b 2) e.code

pub every-binary : (bs : List ℕ) → T (every (λ (b : ℕ). ltb b 2) bs) → Binary bs
unfolding every
every-binary [] t = tt
every-binary (b ∷ bs) t =
    let later : Bool = every (λ (x : ℕ). ltb x 2) bs in
    (ltb→lt b 2 (and_left (ltb b 2) later t), every-binary bs (and_right (ltb b 2) later t))

pub row-binary : (scheme : Scheme) → ((m : ℕ) → T (every binary (scheme.table m))) → (m n : ℕ) (es : List Entry) → Row scheme m es n
    → Binary (codes es)
unfolding codes binary
row-binary scheme t m n [] r = tt
row-binary scheme t m n (e ∷ es) r =
    binary-append e.code (codes es) (every-binary e.code (every-at binary (scheme.table m) (t m) e r.0))
    (row-binary scheme t (state_after m e) n es r.1)

-- where the codes of these entries end, no more is left of the last byte than may be unused
abbrev pub Closes : Scheme → List Entry → Type 0
Closes scheme es = gap (length (codes es)) ≤ scheme.unused

-- what entries are written as
module _ (es : List Entry) where
  pub length-written : length (written es) ≡ (length (codes es) + 7) / 8
  unfolding written
  length-written = omega (arith, length-packed (filled (codes es)), length-filled (codes es))

  pub bits-written : Binary (codes es) → bits (written es) ≡ codes es ++ replicate (gap (length (codes es))) 1
  unfolding written filled
  bits-written h = bits-packed (filled (codes es)) (filled-binary (codes es) h) (filled-whole (codes es))

  pub written-bytes : Binary (codes es) → Bytes (written es)
  unfolding written
  written-bytes h = packed-bytes (filled (codes es)) (filled-binary (codes es) h) (filled-whole (codes es))

  -- it is a building of what they say, where they close
  unfoldable pub written-built : {scheme : Scheme} → Closes scheme es → Row scheme 0 es 0 → Binary (codes es) → Built scheme (texts es) (written es)
  written-built {scheme} few r h = record {
    entries = es;
    fill = replicate (gap (length (codes es))) 1;
    row = r;
    says = refl;
    ends = ones_fill scheme.unused (gap (length (codes es))) few;
    bits = bits-written h;
  }

-- and of a text that they say, with as many bits before its fill as their codes have
pub row-built : (scheme : Scheme) → ((m : ℕ) → T (every binary (scheme.table m))) → (es : List Entry) → Closes scheme es → Row scheme 0 es 0
    → {text : List ℕ} → texts es ≡ text → (b : Built scheme text (written es)) × (bits_in b ≡ length (codes es))
unfolding written-built
row-built scheme all-bits es few r says =
    subst (λ (text : List ℕ). (b : Built scheme text (written es)) × (bits_in b ≡ length (codes es))) says
    (written-built es few r (row-binary scheme all-bits 0 0 es r), refl)

gap-least : (n f k : ℕ) → n + f ≡ k * 8 → gap n ≤ f
unfolding gap
gap-least n f k e = omega arith

-- the entries of a building close
pub built-closes : {scheme : Scheme} {text : List ℕ} (sent : List ℕ) (b : Built scheme text sent) → Closes scheme b.entries
built-closes sent b =
    let whole : length (codes b.entries) + length b.fill ≡ length sent * 8 =
    omega (arith, length-bits sent, ap length b.bits, length-append (codes b.entries) b.fill) in
    omega (arith, gap-least (length (codes b.entries)) (length b.fill) (length sent) whole, b.ends.few)

-- a building has as many bytes as its codes need, where fewer bits may be unused than a byte has
pub built-length : {scheme : Scheme} {text : List ℕ} → scheme.unused < 8 → (sent : List ℕ) (b : Built scheme text sent)
    → length sent ≡ (length (codes b.entries) + 7) / 8
built-length few sent b =
    omega (arith, length-bits sent, ap length b.bits, length-append (codes b.entries) b.fill, b.ends.few)
