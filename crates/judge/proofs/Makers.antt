-- Two makers' data of one text: neither is the front of the other; our writer's is the same for the text and for what it comes back as; and in Open, Numeric
-- and SHEF there is no other.
-- Assumes nothing.
use mathlib.Core.List.{List, ◌++◌}
use mathlib.Core.Path.{◌≡◌, refl, ap, subst}
use Prim.Native.Nat.{ℕ}
use native.Mathlib.Omega.{arith}
use lib.Dec.{lit<}
use lib.ListN.{length, length-append}
use Rattle.header.specs.declared.Format.{Format}
use Rattle.header.specs.declared.Format.TheVariants.{Open, PseudoBinary, Numeric, Shef, FullAscii}
use Rattle.bits.specs.Row.{Bytes}
use Rattle.apart.proofs.NoFront.{no_front}
use Rattle.codes.specs.Chain.{Entry, Row}
use Rattle.codes.specs.Pack.{written}
use Rattle.codes.proofs.BitsInBytes.{row-binary, written-bytes}
use Rattle.full_ascii.proofs.Table as ascii-table
use Rattle.numeric.specs.Table as numeric
use Rattle.numeric.specs.Writer as numeric-writer
use Rattle.numeric.proofs.Table as numeric-table
use Rattle.numeric.proofs.Writer as numeric-built
use Rattle.pseudo_binary.proofs.Table as pseudo-table
use Rattle.pseudo_binary.proofs.Writer as pseudo-built
use Rattle.shef.proofs.Table as shef-table
use Rattle.shef.proofs.Writer as shef-built
use Rattle.formats.specs.Data.{Carries, AllCoded, data_of, comes_back}
use Rattle.formats.specs.Waste.{times_at_most}
use Rattle.formats.proofs.Bits.{bits-bytes}
use Rattle.formats.proofs.Formats.{carries-coded, writer-carries, carries-again}

-- nothing stands behind one in the other
pub none-behind : (format : Format) (text ours rest : List ℕ) → Carries format text ours → Carries format text (ours ++ rest) → length rest ≡ 0
none-behind Open text ours rest p q = omega (arith, ap length p, ap length q, length-append ours rest)
none-behind PseudoBinary text ours rest p q = ap length (no_front pseudo-table.laws pseudo-table.sounds (lit< tt) ours rest p q)
none-behind Numeric text ours rest p q =
    omega (
      arith,
      length-append ours rest,
      bits-bytes Numeric text ours p,
      bits-bytes Numeric text (ours ++ rest) q,
      numeric-built.same_bits text ours (ours ++ rest) p q,
    )
none-behind Shef text ours rest p q = ap length (no_front shef-table.laws shef-table.sounds (lit< tt) ours rest p q)
none-behind FullAscii text ours rest p q = ap length (no_front ascii-table.laws ascii-table.sounds (lit< tt) ours rest p q)

-- ---- what our writer makes of a text is bytes

numeric-bytes : (t : List ℕ) → AllCoded Numeric t → Bytes (data_of Numeric t)
numeric-bytes t h =
    let b = writer-carries Numeric t h in
    let row = subst (λ (es : List Entry). Row numeric.scheme 0 es 0) (numeric-built.ours-entries t (comes_back Numeric t) b) b.codes.row in
    written-bytes (numeric-writer.ours t) (row-binary numeric.scheme numeric-table.all-bits 0 0 (numeric-writer.ours t) row)

-- ---- and is what it makes of what that text comes back as

-- where a text has one building
one_again : (format : Format) → ((text a b : List ℕ) → Bytes a → Bytes b → Carries format text a → Carries format text b → a ≡ b)
    → ((t : List ℕ) → AllCoded format t → Bytes (data_of format t)) → (t : List ℕ) → AllCoded format t → data_of format (comes_back format t) ≡ data_of format t
one_again format one bytes t h =
    let carried = writer-carries format t h in
    let back = comes_back format t in
    one back (data_of format back) (data_of format t) (bytes back (carries-coded format back (data_of format t) carried)) (bytes t h)
    (carries-again format back (data_of format t) carried) carried

pub written-again : (format : Format) (t : List ℕ) → AllCoded format t → data_of format (comes_back format t) ≡ data_of format t
written-again Open t h = refl
written-again PseudoBinary t h = ap written (pseudo-built.ours-back t)
written-again Numeric t h = one_again Numeric numeric-built.one-building numeric-bytes t h
written-again Shef t h = one_again Shef shef-built.one-building (shef-built.writer-laws).ours-bytes t h
written-again FullAscii t h = refl

-- ---- where there is one way, theirs is ours

pub one-way-ours : (format : Format) → times_at_most format ≡ 1 → (text theirs : List ℕ) → Bytes theirs → Carries format text theirs → theirs ≡ data_of format text
unfolding times_at_most
one-way-ours PseudoBinary once text theirs bytes carries = absurd (let no' : ⊥ = omega (arith, once) in no')
one-way-ours FullAscii once text theirs bytes carries = absurd (let no' : ⊥ = omega (arith, once) in no')
one-way-ours Open once text theirs bytes carries = carries
one-way-ours Numeric once text theirs bytes carries =
    numeric-built.one-building text theirs (data_of Numeric text) bytes (numeric-bytes text (carries-coded Numeric text theirs carries)) carries (carries-again Numeric text theirs carries)
one-way-ours Shef once text theirs bytes carries =
    shef-built.one-building text theirs (data_of Shef text) bytes ((shef-built.writer-laws).ours-bytes text (carries-coded Shef text theirs carries)) carries (carries-again Shef text theirs carries)
