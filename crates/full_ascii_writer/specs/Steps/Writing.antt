-- What the loops of text_sender ask of Compact Full ASCII: how many bits our codes of a text have, character by character, and how few they can be.
-- Nothing here needs belief. Assumes nothing.
use mathlib.Core.Path.{◌≡◌, refl, ap, subst⁻¹}
use mathlib.Core.Bool.{Bool, true, false, cond, ◌&&◌}
use mathlib.Core.List.{List, [], ◌∷◌}
use Prim.Native.Nat.{ℕ, ◌+◌, ◌*◌, ◌≤◌}
use native.Mathlib.Omega.{arith}
use mir.Val.{bool_byte}
use lib.Dec.{eqb, ltb, lit≤}
use lib.ListN.{length, get_or, length-append}
use Rattle.bits.specs.Word.{bit}
use Rattle.codes.specs.Chain.{Entry, codes}
use Rattle.codes.specs.Pack.{low}
use Rattle.codes.specs.Steps.Summed.{sum_after}
use Rattle.full_ascii.specs.Table.{HT, LF, CR, six, seven, special, pair}
use Rattle.full_ascii.specs.Writer.{coded, own, ours}
use Rattle.full_ascii_writer.specs.Steps.Sending.{codes_from, bits_for}
use Rattle.codes.specs.Coded.{alone}
use Rattle.codes.proofs.BitsInBytes.{length-written}
use Rattle.full_ascii.proofs.Writer.{writer-laws}
use Rattle.text_sender.specs.Steps.Writes.{WriteLaws}
use Rattle.full_ascii.proofs.Ours.{line-end, ours-has, size, size-feed}

-- ---- the bits of one character

abbrev wide : Entry → ℕ
wide e = length e.code

-- nine fewer where the two are a line end
bits-own : (before c : ℕ) → bits_for before c + bool_byte (eqb before CR && eqb c LF) * 9 ≡ wide (own c)
unfolding bits_for own special low bit
bits-own before c = pick (eqb before CR && eqb c LF) refl
  where
    pick : (b : Bool) → (eqb before CR && eqb c LF) ≡ b → cond b 0 (wide (own c)) + bool_byte b * 9 ≡ wide (own c)
    pick true e = subst⁻¹ (λ (x : ℕ). 9 ≡ wide (own x)) (line-end before c e).1 refl
    pick false e = omega arith

-- ---- the bits of a text

-- a character's own bits and those of the rest, nine more where the two are a line end
size-first : (c : ℕ) (t : List ℕ) → size (c ∷ t) + bool_byte (eqb c CR && eqb (get_or t 0 0) LF) * 9 ≡ wide (own c) + size t
unfolding size ours codes pair special low bit own
size-first c [] = pick (eqb c CR)
  where
    pick : (b : Bool) → length (codes (own c ∷ [])) + bool_byte (b && false) * 9 ≡ wide (own c) + 0
    pick true = omega (arith, length-append (own c).code [])
    pick false = omega (arith, length-append (own c).code [])
size-first c (d ∷ t) = pick (eqb c CR && eqb d LF) refl
  where
    pick : (b : Bool) → (eqb c CR && eqb d LF) ≡ b
        → length (codes (cond b (pair ∷ ours t) (own c ∷ ours (d ∷ t)))) + bool_byte b * 9 ≡ wide (own c) + size (d ∷ t)
    pick true e =
        let l = line-end c d e in
        omega (arith, size-feed t, ap (λ (x : ℕ). size (x ∷ t)) l.1, ap (λ (x : ℕ). wide (own x)) l.0)
    pick false e = omega (arith, length-append (own c).code (codes (ours (d ∷ t))))

-- the bits of the characters, one by one, are those of our codes, where no CR stands before the text
bits-size : (before : ℕ) (t : List ℕ) → sum_after bits_for before t + bool_byte (eqb before CR && eqb (get_or t 0 0) LF) * 9 ≡ size t
unfolding sum_after size ours codes
bits-size before [] = pick (eqb before CR)
  where
    pick : (b : Bool) → 0 + bool_byte (b && false) * 9 ≡ 0
    pick true = refl
    pick false = refl
bits-size before (c ∷ t) = omega (arith, bits-own before c, size-first c t, bits-size c t)

pub bits-whole : (t : List ℕ) → sum_after bits_for 0 t ≡ length (codes (ours t))
unfolding size
bits-whole t = omega (arith, bits-size 0 t)

-- ---- a text has four and a half bits a character or more

either-wide : (b : Bool) (d e : Entry) → 6 ≤ wide d → 6 ≤ wide e → 6 ≤ wide (cond b d e)
either-wide true d e h k = h
either-wide false d e h k = k

own-wide : (c : ℕ) → 6 ≤ wide (own c)
unfolding own special six seven low bit
own-wide c =
    either-wide (eqb c HT) _ _ (lit≤ tt)
    (either-wide (eqb c LF) _ _ (lit≤ tt) (either-wide (eqb c CR) _ _ (lit≤ tt) (either-wide (ltb c 64) (six c) (seven c) (lit≤ tt) (lit≤ tt))))

pub least-bits : (t : List ℕ) → 9 * length t ≤ 2 * length (codes (ours t))
unfolding codes pair special low bit
least-bits =
    ours-has (λ (t : List ℕ) (es : List Entry). 9 * length t ≤ 2 * length (codes es)) (lit≤ tt)
    (λ c t es h. omega (arith, length-append (own c).code (codes es), own-wide c)) (λ t es h. omega arith)

pub write-laws : WriteLaws (alone coded) ours codes_from bits_for 1 9
write-laws = record {
  binary = writer-laws.ours-binary;
  begins = λ t. refl;
  size = λ t. omega (arith, length-written (ours t), bits-whole t);
  least = λ t h. omega (arith, bits-whole t, least-bits t);
  small = lit≤ tt;
  some = lit≤ tt;
}
