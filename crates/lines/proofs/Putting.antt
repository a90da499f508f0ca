-- Rows put into a buffer one behind the other.
-- Assumes nothing.
use mathlib.Core.List.{List, [], ◌∷◌, ◌++◌}
use mathlib.Core.Path.{◌≡◌, refl, sym, ap, ap₂, subst, ◌∙◌}
use Prim.Native.Nat.{ℕ, suc, ◌+◌, ◌*◌, ◌/◌, ◌%◌, ◌^◌, ◌≤◌, ◌<◌}
use native.Mathlib.Omega.{arith}
use native.Mathlib.Nat.{add-zero, zero-add}
use native.Mathlib.Numerals.{add-one}
use lib.ListN.{length, get_or, take, drop, set, length-append, drop_of_length-le}
use lib.Seq.{drop-cons, take-length}
use Rattle.codes.specs.Steps.Laid.{laid, Fronted}
use Rattle.codes.proofs.LaidRows.{laid_nil, laid-laid, length-laid, set-laid}
use Rattle.lines.specs.Line.{digit, decimal, decimals, hexadecimal_digit, hexadecimal_in, hexadecimal, spaced}
use Rattle.lines.specs.Steps.Put.{PutsRow}
use Rattle.lines.proofs.Decimal.{decimal-small, decimal-large}

-- nothing else changed, the length neither
pub puts-length : {row entry exit : List ℕ} {n r : ℕ} → PutsRow row entry exit n r → n + length row ≤ length entry → length exit ≡ length entry
puts-length {row} {entry} {exit} {n} p h = ap length p.whole ∙ length-laid entry n row h

-- two rows are one
pub puts-more : {a b entry mid exit : List ℕ} {n m r : ℕ} → PutsRow a entry mid n m → PutsRow b mid exit m r → n + length a ≤ length entry
    → PutsRow (a ++ b) entry exit n r
puts-more {a} {b} {entry} {mid} {exit} {n} {m} {r} p q h =
    record {
      place = omega (arith, p.place, q.place, length-append a b);
      whole =
          q.whole ∙ ap (λ (l : List ℕ). laid l m b) p.whole ∙ laid-laid entry n m a b h p.place;
    }

-- a byte
pub puts-byte : (entry : List ℕ) (n v : ℕ) → n < length entry → PutsRow (v ∷ []) entry (set entry n v) n (n + 1)
puts-byte entry n v h = record { place = refl; whole = set-laid entry n v h }

-- a byte that is to be this one, and the place behind it
pub puts-as : {v r : ℕ} {entry : List ℕ} {n : ℕ} (byte : ℕ) → byte ≡ v → r ≡ n + 1 → n < length entry → PutsRow (v ∷ []) entry (set entry n byte) n r
puts-as {v} {r} {entry} {n} byte e f h =
    record { place = f; whole = set-laid entry n byte h ∙ ap (λ (b : ℕ). laid entry n (b ∷ [])) e }

-- ---- a number

pub puts-small : (n : ℕ) (entry : List ℕ) (at : ℕ) → n < 10 → at < length entry → PutsRow (decimal n) entry (set entry at (digit n)) at (at + 1)
puts-small n entry at few h = rw (decimal-small n few) (puts-byte entry at (digit n) h)

module _ (n : ℕ) (fits : n < 2 ^ 64) (many : 10 ≤ n) (entry : List ℕ) (at : ℕ) (held : at + length (decimal n) ≤ length entry) where
  -- there is room for a tenth of it, and a digit
  pub tenth-held : at + length (decimal (n / 10)) + 1 ≤ length entry
  tenth-held =
      omega (arith, ap length (decimal-large n fits many), length-append (decimal (n / 10)) (digit (n % 10) ∷ []))

  pub puts-large : (mid : List ℕ) (last : ℕ) → PutsRow (decimal (n / 10)) entry mid at last
      → (last < length mid) × PutsRow (decimal n) entry (set mid last (digit (n % 10))) at (last + 1)
  puts-large mid last p =
      let here : last < length mid = omega (arith, p.place, tenth-held, puts-length p (omega (arith, tenth-held))) in
      (here, rw (decimal-large n fits many) (puts-more p (puts-byte mid last (digit (n % 10)) here) (omega (arith, tenth-held))))

-- ---- a row that is put piece by piece

-- what is still to be put makes the whole, and there is room for it
pub record Still (row entry : List ℕ) (at : ℕ) (left out : List ℕ) (end : ℕ) : Type 0 where
  pub held : end + length left ≤ length out
  pub same : length out ≡ length entry
  pub rest : (exit : List ℕ) (r : ℕ) → PutsRow left out exit end r → PutsRow row entry exit at r

pub still-all : (row entry : List ℕ) (at : ℕ) → at + length row ≤ length entry → Still row entry at row entry at
still-all row entry at h = record { held = h; same = refl; rest = λ exit r p. p }

pub still-none : {row entry : List ℕ} {at : ℕ} {out : List ℕ} {end : ℕ} → Still row entry at [] out end → PutsRow row entry out at end
still-none {row} {entry} {at} {out} {end} l = l.rest out end (record { place = sym (add-zero end); whole = sym (laid_nil out end) })

module _ {row entry : List ℕ} {at : ℕ} (a b : List ℕ) {out : List ℕ} {end : ℕ} (l : Still row entry at (a ++ b) out end) where
  -- there is room for the next piece
  pub piece-held : end + length a + length b ≤ length out
  piece-held = omega (arith, l.held, length-append a b)

  pub still-next : {exit : List ℕ} {r : ℕ} → PutsRow a out exit end r → Still row entry at b exit r
  still-next {exit} {r} p =
      let long : length exit ≡ length out = puts-length p (omega (arith, piece-held)) in
      record {
        held = omega (arith, long, p.place, piece-held);
        same = long ∙ l.same;
        rest = λ after s q. l.rest after s (puts-more p q (omega (arith, piece-held)));
      }

-- ---- numbers, each after a space

pub record Left (numbers entry : List ℕ) (at : ℕ) (out : List ℕ) (end i : ℕ) : Type 0 where
  pub few : i ≤ length numbers
  pub still : Still (spaced (decimals numbers)) entry at (spaced (decimals (drop i numbers))) out end

pub left-all : (numbers entry : List ℕ) (at : ℕ) → at + length (spaced (decimals numbers)) ≤ length entry → Left numbers entry at entry at 0
left-all numbers entry at h = record { few = omega arith; still = still-all (spaced (decimals numbers)) entry at h }

module _ {numbers entry : List ℕ} {at : ℕ} {out : List ℕ} {end i : ℕ} (l : Left numbers entry at out end i) where
  pub left-none : length numbers ≤ i → PutsRow (spaced (decimals numbers)) entry out at end
  unfolding spaced decimals
  left-none h =
      still-none
      (subst (λ (rest : List ℕ). Still (spaced (decimals numbers)) entry at (spaced (decimals rest)) out end) (drop_of_length-le numbers h) l.still)

  module _ (h : i < length numbers) where
    abbrev number : ℕ
    number = get_or numbers i 0

    abbrev later : List ℕ
    later = spaced (decimals (drop (i + 1) numbers))

    next : spaced (decimals (drop i numbers)) ≡ (32 ∷ []) ++ (decimal number ++ later)
    unfolding spaced decimals
    next = rw (add-one, drop-cons numbers i 0 h)

    now-still : Still (spaced (decimals numbers)) entry at ((32 ∷ []) ++ (decimal number ++ later)) out end
    now-still = subst (λ (rest : List ℕ). Still (spaced (decimals numbers)) entry at rest out end) next l.still

    -- there is room for the space and the next number
    pub next-held : end + 1 + length (decimal number) ≤ length out
    next-held = omega (arith, piece-held (32 ∷ []) (decimal number ++ later) now-still, length-append (decimal number) later)

    pub left-next : (between : ℕ) (exit : List ℕ) (r : ℕ) → PutsRow (decimal number) (set out end between) exit (end + 1) r
        → between ≡ 32 → Left numbers entry at exit r (i + 1)
    left-next between exit r p e =
        record {
          few = omega arith;
          still = still-next (decimal number) later
              (still-next (32 ∷ []) (decimal number ++ later) now-still (puts-as between e refl (omega (arith, next-held)))) p;
        }

-- ---- 32 bits in hexadecimal

pub record DigitsLeft (n : ℕ) (entry : List ℕ) (at : ℕ) (out : List ℕ) (end places : ℕ) : Type 0 where
  pub few : places ≤ 8
  pub still : Still (hexadecimal n) entry at (hexadecimal_in places n) out end

pub digits-all : (n : ℕ) (entry : List ℕ) (at : ℕ) → at + length (hexadecimal n) ≤ length entry → DigitsLeft n entry at entry at 8
unfolding hexadecimal
digits-all n entry at h = record { few = omega arith; still = still-all (hexadecimal n) entry at h }

module _ {n : ℕ} {entry : List ℕ} {at : ℕ} {out : List ℕ} {end places : ℕ} (l : DigitsLeft n entry at out end places) where
  pub digits-none : places ≤ 0 → PutsRow (hexadecimal n) entry out at end
  unfolding hexadecimal_in
  digits-none h =
      let none : places ≡ 0 = omega arith in
      still-none (subst (λ (k : ℕ). Still (hexadecimal n) entry at (hexadecimal_in k n) out end) none l.still)

  module _ (fewer : ℕ) (e : places ≡ suc fewer) where
    now-digit : Still (hexadecimal n) entry at ((hexadecimal_digit (n / 2 ^ (4 * fewer) % 16) ∷ []) ++ hexadecimal_in fewer n) out end
    unfolding hexadecimal_in
    now-digit = subst (λ (k : ℕ). Still (hexadecimal n) entry at (hexadecimal_in k n) out end) e l.still

    pub digit-held : end < length out
    digit-held = omega (arith, piece-held (hexadecimal_digit (n / 2 ^ (4 * fewer) % 16) ∷ []) (hexadecimal_in fewer n) now-digit)

    -- the four bits so far up
    pub digits-next : (shift put r : ℕ) → shift ≡ 4 * fewer → put ≡ hexadecimal_digit (n / 2 ^ shift % 16) → r ≡ end + 1
        → DigitsLeft n entry at (set out end put) r fewer
    digits-next shift put r s p f =
        record {
          few = omega (arith, l.few);
          still = still-next (hexadecimal_digit (n / 2 ^ (4 * fewer) % 16) ∷ []) (hexadecimal_in fewer n) now-digit
              (puts-as put (p ∙ ap (λ (k : ℕ). hexadecimal_digit (n / 2 ^ k % 16)) s) f digit-held);
        }

-- ---- a word and numbers

-- a row laid at place 0 stands at the front
pub front : {row entry exit : List ℕ} {r : ℕ} → PutsRow row entry exit 0 r → Fronted row entry exit r
unfolding laid
front {row} {entry} p =
    let long = p.place ∙ zero-add (length row) in
    record { size = long; whole = p.whole ∙ ap (λ (k : ℕ). row ++ drop k entry) (sym p.place) }

module _ (word numbers entry : List ℕ) (held : length word + length (spaced (decimals numbers)) ≤ length entry) (mid : List ℕ) (at : ℕ) (long : at ≡ length word)
    (copied : mid ≡ take (length word) word ++ drop (length word) entry) where
  word-put : PutsRow word entry mid 0 at
  unfolding laid
  word-put =
      record {
        place = long ∙ sym (zero-add (length word));
        whole = copied ∙ ap₂ (λ (l : List ℕ) (k : ℕ). l ++ drop k entry) (take-length word) (sym (zero-add (length word)));
      }

  pub word-numbers : (exit : List ℕ) (r : ℕ) → PutsRow (spaced (decimals numbers)) mid exit at r → PutsRow (word ++ spaced (decimals numbers)) entry exit 0 r
  word-numbers exit r p = puts-more word-put p (omega (arith, held))
