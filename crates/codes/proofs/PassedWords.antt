-- Eight bytes of the data passed as one number: what is still to be read after them; and the last bytes. It holds of every scheme.
-- Assumes nothing.
use mathlib.Core.Path.{◌≡◌, refl, sym, ap, subst, subst₂, subst⁻¹, ◌∙◌}
use mathlib.Core.List.{List, [], ◌∷◌, ◌++◌, append_assoc, append-nil}
use Prim.Native.Nat.{ℕ, ◌+◌, ◌-◌, ◌*◌, ◌/◌, ◌%◌, ◌^◌, ◌≤◌, ◌<◌}
use native.Mathlib.Nat.{mod-eq_of_lt, lt_of_lt_of_le}
use native.Mathlib.Omega.{arith}
use lib.ListN.{length, take, drop, get_or, replicate, length-drop, take-append-drop, drop_of_length-le}
use lib.Arith.{digits_lt}
use lib.Pow.{pow-add, pow_mono}
use lib.Seq.{drop-drop, take-append-le, drop-append-le}
use Rattle.bits.specs.Row.{bits}
use Rattle.codes.specs.Chain.{Scheme}
use Rattle.codes.specs.Pack.{low, value}
use Rattle.codes.specs.Steps.BitBuffer.{ahead, Window}
use Rattle.codes.specs.Steps.EightBytes.{eight_at}
use Rattle.codes.specs.Steps.Laid.{Readable}
use Rattle.codes.specs.Steps.Measure.{Measured, Measures, with_front}
use Rattle.codes.specs.Steps.Passed.{CountedSoFar, LaidSoFar}
use Rattle.codes.specs.Steps.Words.{SkimsInto, Begun, LaidWords, Last}
use Rattle.codes.specs.declared.Laid.{Laid}
use Rattle.codes.proofs.BitBuffer.{ahead-byte, low-drop}
use Rattle.codes.proofs.BitsInBytes.{bits-cons, drop_bits}
use Rattle.codes.proofs.EightBytes.{eight-bits}
use Rattle.codes.proofs.LowBits.{length-low, value_low}
use Rattle.codes.proofs.ReadSoFar.{counting-on, counting-front, counting-whole, laying-on, laying-front, laying-length, laying-later, laying-within}
use Rattle.codes.proofs.SchemeLaws.{Laws}

-- the next nine stay where bits are added behind them
pub longer : (held left : ℕ) (more : List ℕ) (nine : ℕ) → Window held left nine → 9 ≤ left
    → low 9 nine ≡ take 9 ((low left held ++ more) ++ replicate 9 1)
longer held left more nine w h =
    let within : 9 ≤ length (low left held) = omega (arith, length-low left held) in
    w.nine
    ∙ take-append-le 9 (low left held) (replicate 9 1) within
    ∙ sym (take-append-le 9 (low left held) (more ++ replicate 9 1) within)
    ∙ ap (take 9) (sym (append_assoc (low left held) more (replicate 9 1)))

all_passed : (s : List ℕ) (held i : ℕ) → length s ≤ i → low (i * 8) held ++ bits (drop i s) ≡ bits s → low (i * 8) held ≡ bits s
unfolding bits
all_passed s held i h e =
    sym (append-nil (low (i * 8) held)) ∙ ap (λ l. low (i * 8) held ++ bits l) (sym (drop_of_length-le s h)) ∙ e

bits-append : (s t : List ℕ) → bits (s ++ t) ≡ bits s ++ bits t
unfolding bits
bits-append [] t = refl
bits-append (b ∷ s) t =
    bits-cons b (s ++ t) ∙ ap (λ l. low 8 b ++ l) (bits-append s t) ∙ sym (append_assoc (low 8 b) (bits s) (bits t))
    ∙ ap (λ l. l ++ bits t) (sym (bits-cons b s))

pub eight_whole : (word : List ℕ) → length word ≡ 8 → ((i : ℕ) → get_or word i 0 < 256) → low 64 (eight_at word 0) ≡ bits word
eight_whole word e b = all_passed word (eight_at word 0) 8 (omega arith) (eight-bits word 0 (omega arith) b)

-- a byte more at the lower end of a number
pub byte_more : (s : List ℕ) (held i : ℕ) → i < length s → get_or s i 0 < 256
    → low ((i + 1) * 8) (held * 256 + get_or s i 0) ++ bits (drop (i + 1) s) ≡ low (i * 8) held ++ bits (drop i s)
unfolding ahead
byte_more s held i h k =
    ap (λ n. low n (held * 256 + get_or s i 0) ++ bits (drop (i + 1) s)) (let e : (i + 1) * 8 ≡ i * 8 + 8 = omega arith in e)
    ∙ ahead-byte s held (i * 8) i h k

-- a place in bits, by the byte
pub by_byte : (s : List ℕ) (k : ℕ) → drop (k % 8) (bits (drop (k / 8) s)) ≡ drop k (bits s)
by_byte s k =
    ap (drop (k % 8)) (sym (drop_bits (k / 8) s))
    ∙ drop-drop (k % 8) (k / 8 * 8) (bits s)
    ∙ ap (λ n. drop n (bits s)) (let e : k / 8 * 8 + k % 8 ≡ k = omega arith in e)

module _ (rest word : List ℕ) (held : ℕ) (w : word ≡ take 8 rest) (h : low 64 held ≡ bits word) where
  -- the bits behind the first k of a word and what follows it
  pub behind : (k : ℕ) → k ≤ 64 → drop k (bits rest) ≡ low (64 - k) held ++ bits (drop 8 rest)
  behind k small =
      ap (λ s. drop k (bits s)) (sym (take-append-drop 8 rest) ∙ ap (λ s. s ++ drop 8 rest) (sym w))
      ∙ ap (drop k) (bits-append word (drop 8 rest) ∙ ap (λ l. l ++ bits (drop 8 rest)) (sym h))
      ∙ drop-append-le k (low 64 held) (bits (drop 8 rest)) (let e : k ≤ length (low 64 held) = omega (arith, length-low 64 held) in e)
      ∙ ap (λ l. l ++ bits (drop 8 rest)) (low-drop held 64 k small)

  pub ahead_left : (left : ℕ) → left ≤ 64 → low left held ++ bits (drop 8 rest) ≡ drop (64 - left) (bits rest)
  ahead_left left few =
      ap (λ k. low k held ++ bits (drop 8 rest)) (let e : left ≡ 64 - (64 - left) = omega arith in e) ∙ sym (behind (64 - left) (omega arith))

  -- codes of a word passed, after those before it
  pub word_more : {scheme : Scheme} {bs : List ℕ} {n codes count more left skip : ℕ} → skip ≤ 64 → left ≤ 64
      → CountedSoFar scheme bs (drop skip (bits rest)) n codes → CountedSoFar scheme (low (64 - skip) held) (low left held) count more
      → CountedSoFar scheme bs (drop (64 - left) (bits rest)) (n + count) (codes + more)
  word_more {scheme} {bs} {n} {codes} {count} {more} {left} {skip} small few before now =
      counting-on before
      (subst₂ (λ a b. CountedSoFar scheme a b count more) (sym (behind skip small)) (ahead_left left few) (counting-front now (bits (drop 8 rest))))

  module _ {scheme : Scheme} {s entry out : List ℕ} {skip n : ℕ} (laws : Laws scheme) (f : Readable scheme (bits s) (length entry))
      (y : LaidWords scheme s entry out rest skip n) where
    -- where there is room for the whole text there is for what the word's codes say
    pub word_begun : (n ≤ length out) × Begun scheme held (64 - skip) (length out - n)
    word_begun =
        let same : length out ≡ length entry = laying-length y.laid y.room in
        let short : skip ≤ 64 = omega (arith, y.short) in (
          omega (arith, same, y.room),
          (
            bits (drop 8 rest),
            subst₂ (Readable scheme) (behind skip short) (let e : 0 + length entry - n ≡ length out - n = omega (arith, same) in e)
                (laying-later y.laid laws f),
          ),
        )

    -- and then they are passed
    pub word_laid : {exit after : List ℕ} (r : Laid) → 8 ≤ length rest → SkimsInto scheme held (64 - skip) out exit n r
        → after ≡ drop ((64 - r.left) / 8) rest → LaidWords scheme s entry exit after ((64 - r.left) % 8) (n + r.count)
    word_laid {exit} {after} r whole z moved =
        let short : skip ≤ 64 = omega (arith, y.short) in
        let few : r.left ≤ 64 = omega (arith, z.0.last) in
        let on : LaidSoFar scheme (bits s) (drop (64 - r.left) (bits rest)) entry exit 0 (n + r.count) =
        laying-on y.laid y.room
        (subst₂ (λ a b. LaidSoFar scheme a b out exit n (n + r.count)) (sym (behind skip short)) (ahead_left r.left few)
        (laying-front z.1 (bits (drop 8 rest)))) in
        record {
          short = omega arith;
          within = omega (arith, whole, z.0.last, ap length moved, length-drop ((64 - r.left) / 8) rest);
          room = omega (arith, laying-within on laws f);
          laid = subst (λ row. LaidSoFar scheme (bits s) row entry exit 0 (n + r.count))
              (sym (by_byte rest (64 - r.left)) ∙ ap (λ s. drop ((64 - r.left) % 8) (bits s)) (sym moved)) on;
        }

-- a byte more at the lower end of the last bits: no more than these
pub last-small : (held byte k : ℕ) → held < 2 ^ k → byte < 256 → held * 256 + byte < 2 ^ (k + 8)
last-small held byte k h b = subst⁻¹ (λ (n : ℕ). held * 256 + byte < n) (pow-add 2 k 8) (digits_lt h b)

pub last-fits-word : (held byte k : ℕ) → k ≤ 56 → held < 2 ^ k → byte < 256 → held * 256 + byte < 2 ^ 64
last-fits-word held byte k small h b = lt_of_lt_of_le (last-small held byte k h b) (pow_mono (let e : k + 8 ≤ 64 = omega arith in e))

-- the last bytes as a number, without the first `skip` bits
pub last-told : (rest : List ℕ) (held skip have end n : ℕ) → n ≡ length rest → held < 2 ^ (n * 8) → low (n * 8) held ++ bits (drop n rest) ≡ bits rest
    → have + skip ≡ length rest * 8 → end ≡ length rest → Last rest skip held have end
last-told rest held skip have end n all small e size behind =
    let whole : low (n * 8) held ≡ bits rest = all_passed rest held n (omega (arith, all)) e in
    record {
      whole = sym (value_low (n * 8) held ∙ mod-eq_of_lt small) ∙ ap value whole;
      same = ap (λ k. low k held) (let x : have ≡ n * 8 - skip = omega (arith, all, size) in x)
          ∙ sym (low-drop held (n * 8) skip (omega (arith, all, size))) ∙ ap (drop skip) whole;
      size = size;
      behind = behind;
    }

-- and so there is one answer
pub last_one : {rest : List ℕ} {skip held have end held' have' end' : ℕ} → Last rest skip held have end → Last rest skip held' have' end'
    → (held ≡ held') × (have ≡ have') × (end ≡ end')
last_one a b = (a.whole ∙ sym b.whole, omega (arith, a.size, b.size), a.behind ∙ sym b.behind)

-- what they come to, told of the whole; each number with what it must be, so that a wrong one is refused where it stands
pub last-whole : {scheme : Scheme} {bs row : List ℕ} {n codes k j : ℕ} (at : ℕ) → CountedSoFar scheme bs row n codes → k ≡ n → j ≡ codes
    → at + length row ≡ length bs → (m : Measured) → Measures scheme row m → Measures scheme bs (with_front k j at m)
last-whole {scheme} {bs} {row} at c e f size m t = counting-whole (subst₂ (CountedSoFar scheme bs row) (sym e) (sym f) c) at size m t
