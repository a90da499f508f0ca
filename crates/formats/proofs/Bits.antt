-- How many bits of data stand before its fill: one number, and what its bytes come to; the fewest in our writer's; and how many times as many in another's.
-- Assumes nothing.
use mathlib.Core.List.{List}
use mathlib.Core.Path.{◌≡◌, refl, sym, ap, subst⁻¹, ◌∙◌}
use Prim.Native.Nat.{ℕ, ◌+◌, ◌*◌, ◌/◌, ◌≤◌}
use native.Mathlib.Nat.{le_of_eq}
use native.Mathlib.Omega.{arith}
use lib.Dec.{lit<}
use lib.ListN.{length, replicate, length-replicate}
use Rattle.bits.specs.Row.{bits}
use Rattle.header.specs.declared.Format.{Format}
use Rattle.header.specs.declared.Format.TheVariants.{Open, PseudoBinary, Numeric, Shef, FullAscii}
use Rattle.codes.specs.Chain.{Entry, Scheme, codes, bits_in, Built}
use Rattle.codes.specs.Pack.{written}
use Rattle.codes.proofs.BitsInBytes.{length-bits, built-length}
use Rattle.codes.proofs.OneReading.{one_size}
use Rattle.codes.proofs.SchemeLaws.{Laws}
use Rattle.codes.proofs.WriterLaws.{WriterLaws}
use Rattle.full_ascii.proofs.Table as ascii-table
use Rattle.full_ascii.proofs.Waste as ascii-waste
use Rattle.full_ascii.proofs.Writer as ascii-built
use Rattle.numeric.proofs.Table as numeric-table
use Rattle.numeric.proofs.Writer as numeric-built
use Rattle.pseudo_binary.specs.Table.{SLASH, Kind, slashes, is_of}
use Rattle.pseudo_binary.specs.Makers.{singly}
use Rattle.pseudo_binary.specs.Writer as pseudo-writer
use Rattle.pseudo_binary.proofs.Characters.{alike-replicate}
use Rattle.pseudo_binary.proofs.Length.{width, each}
use Rattle.pseudo_binary.proofs.Size.{started}
use Rattle.pseudo_binary.proofs.Table as pseudo-table
use Rattle.pseudo_binary.proofs.Waste as pseudo-waste
use Rattle.pseudo_binary.proofs.Writer as pseudo-built
use Rattle.shef.proofs.Table as shef-table
use Rattle.shef.proofs.Writer as shef-built
use Rattle.formats.specs.Data.{Carries, bits_before_fill, AllCoded, data_of, comes_back}
use Rattle.formats.specs.Waste.{times_at_most}
use Rattle.formats.proofs.Codes.{reached}
use Rattle.formats.proofs.Formats.{carries-coded, writer-carries}

-- ---- one number, and what the bytes are

pub bits-one : (format : Format) (t u carried : List ℕ) (p : Carries format t carried) (q : Carries format u carried)
    → bits_before_fill format t carried p ≡ bits_before_fill format u carried q
bits-one Open t u carried p q = refl
bits-one PseudoBinary t u carried p q = one_size pseudo-table.laws p q
bits-one Numeric t u carried p q = one_size numeric-table.laws p.codes q.codes
bits-one Shef t u carried p q = one_size shef-table.laws p q
bits-one FullAscii t u carried p q = one_size ascii-table.laws p q

pub bits-bytes : (format : Format) (text carried : List ℕ) (built : Carries format text carried)
    → length carried ≡ (bits_before_fill format text carried built + 7) / 8
bits-bytes Open text carried built = omega (arith, length-bits carried)
bits-bytes PseudoBinary text carried built = built-length (lit< tt) carried built
bits-bytes Numeric text carried built = built-length (lit< tt) carried built.codes
bits-bytes Shef text carried built = built-length (lit< tt) carried built
bits-bytes FullAscii text carried built = built-length (lit< tt) carried built

-- ---- the fewest

scheme-least : {scheme : Scheme} {has : _} {given : List ℕ → List ℕ} {ours : List ℕ → List Entry} → Laws scheme → WriterLaws scheme has given ours
    → (t carried : List ℕ) (made : Built scheme (given t) (written (ours t))) (theirs : Built scheme (given t) carried) → bits_in made ≤ bits_in theirs
scheme-least {given = given} laws w t carried made theirs =
    let coded = w.back-coded t carried theirs in
    subst⁻¹ (λ (es : List Entry). length (codes es) ≤ bits_in theirs) (w.ours-entries laws t (given t) coded made) (w.no-shorter t carried coded theirs)

pub bits-least : (format : Format) (text carried : List ℕ) (ours : Carries format (comes_back format text) (data_of format text))
    (theirs : Carries format (comes_back format text) carried)
    → bits_before_fill format (comes_back format text) (data_of format text) ours ≤ bits_before_fill format (comes_back format text) carried theirs
bits-least Open text carried ours theirs = le_of_eq (ap (λ (l : List ℕ). length (bits l)) (sym theirs))
bits-least PseudoBinary text carried ours theirs = scheme-least pseudo-table.laws pseudo-built.writer-laws text carried ours theirs
bits-least Numeric text carried ours theirs = le_of_eq (numeric-built.same_bits (comes_back Numeric text) (data_of Numeric text) carried ours theirs)
bits-least Shef text carried ours theirs = scheme-least shef-table.laws shef-built.writer-laws text carried ours theirs
bits-least FullAscii text carried ours theirs = scheme-least ascii-table.laws ascii-built.writer-laws text carried ours theirs

-- and so the fewest bytes
pub no-fewer : (format : Format) (text carried : List ℕ) → AllCoded format text → Carries format (comes_back format text) carried
    → length (data_of format text) ≤ length carried
no-fewer format text carried coded theirs =
    let ours = writer-carries format text coded in
    omega (
      arith,
      bits-least format text carried ours theirs,
      bits-bytes format (comes_back format text) (data_of format text) ours,
      bits-bytes format (comes_back format text) carried theirs,
    )

-- ---- so many times as many at most

pub bits-apart : (format : Format) (text a b : List ℕ) (p : Carries format text a) (q : Carries format text b)
    → bits_before_fill format text a p ≤ times_at_most format * bits_before_fill format text b q
unfolding times_at_most
bits-apart Open text a b p q = omega (arith, ap (λ (l : List ℕ). length (bits l)) (p ∙ sym q))
bits-apart PseudoBinary text a b p q = omega (arith, pseudo-waste.sixteen-times a b p q)
bits-apart Numeric text a b p q = omega (arith, numeric-built.same_bits text a b p q)
bits-apart Shef text a b p q = omega (arith, shef-built.same_bits a b p q)
bits-apart FullAscii text a b p q = omega (arith, ascii-waste.twice a b p q)

-- and so many times the bytes
times-bytes : (format : Format) (x y n m : ℕ) → x ≤ times_at_most format * y → n ≡ (x + 7) / 8 → m ≡ (y + 7) / 8 → n ≤ times_at_most format * m
unfolding times_at_most
times-bytes Open x y n m few one other = omega arith
times-bytes PseudoBinary x y n m few one other = omega arith
times-bytes Numeric x y n m few one other = omega arith
times-bytes Shef x y n m few one other = omega arith
times-bytes FullAscii x y n m few one other = omega arith

pub bytes_apart : (format : Format) (text a b : List ℕ) → Carries format text a → Carries format text b → length a ≤ times_at_most format * length b
bytes_apart format text a b p q =
    times-bytes format (bits_before_fill format text a p) (bits_before_fill format text b q) (length a) (length b) (bits-apart format text a b p q)
    (bits-bytes format text a p) (bits-bytes format text b q)

-- ---- a run of one kind in Pseudo Binary, in single ones and as ours

module _ (k : Kind) (r : List ℕ) (alike : pseudo-writer.Alike k r) where
  pub single-run : (b : Carries PseudoBinary (comes_back PseudoBinary r) (written (singly r)))
      × (bits_before_fill PseudoBinary (comes_back PseudoBinary r) (written (singly r)) b ≡ width k * length r + each k * length r)
  single-run =
      let b = pseudo-waste.singly-built r (pseudo-waste.alike-coded k r alike) in
      (b.0, b.1 ∙ pseudo-waste.singly-bits k r alike)

  pub our-run : (b : Carries PseudoBinary (comes_back PseudoBinary r) (data_of PseudoBinary r))
      → bits_before_fill PseudoBinary (comes_back PseudoBinary r) (data_of PseudoBinary r) b ≡ width k * started k (length r) + each k * length r
  our-run b =
      ap (λ (es : List Entry). length (codes es))
      ((pseudo-built.writer-laws).ours-entries pseudo-table.laws r (comes_back PseudoBinary r) (pseudo-waste.alike-coded k r alike) b)
      ∙ pseudo-waste.ours-bits k r alike

-- ---- some data reaches it, however long

-- data of one text, the one with so many times the bits of the other, and this with so many or more
abbrev pub Reaching : Format → ℕ → Type 0
Reaching format n =
    (text a b : List ℕ) × (p : Carries format text a) × (q : Carries format text b) × (n ≤ bits_before_fill format text b q)
    × (bits_before_fill format text a p ≡ times_at_most format * bits_before_fill format text b q)

-- where there is one way, any data
one_way : (format : Format) (n : ℕ) → times_at_most format ≡ 1 → Reaching format n
one_way format n once =
    let r = reached format n in
    let text = r.0 in
    let carried = r.1 in
    let built = r.3.0 in
    let size = bits_before_fill format text carried built in
    let more : n ≤ size = omega (arith, r.2, bits-bytes format text carried built) in
    let same : size ≡ 1 * size = omega arith in
    (text, carried, carried, built, built, more, same ∙ ap (λ (k : ℕ). k * size) (sym once))

-- in Pseudo Binary slashes, sixteen times so many; in Full ASCII line ends
pub apart-reached : (format : Format) (n : ℕ) → Reaching format n
unfolding times_at_most is_of width each started pseudo-writer.our_most
apart-reached Open n = one_way Open n refl
apart-reached PseudoBinary n =
    let r = replicate (16 * n) SLASH in
    let long : length r ≡ 16 * n = length-replicate {A = ℕ} (16 * n) SLASH in
    let alike = alike-replicate slashes SLASH (16 * n) refl in
    let single = single-run slashes r alike in
    let made = writer-carries PseudoBinary r (pseudo-waste.alike-coded slashes r alike) in
    let ours = our-run slashes r alike made in
    (comes_back PseudoBinary r, written (singly r), data_of PseudoBinary r, single.0, made, omega (arith, ours), omega (arith, single.1, ours))
apart-reached Numeric n = one_way Numeric n refl
apart-reached Shef n = one_way Shef n refl
apart-reached FullAscii n =
    let text = ascii-waste.ends n in
    let apart = ascii-waste.apart-built n in
    let coded = carries-coded FullAscii text (written (ascii-waste.apart n)) apart.0 in
    let made = writer-carries FullAscii text coded in
    let ours = ap (λ (es : List Entry). length (codes es)) ((ascii-built.writer-laws).ours-entries ascii-table.laws text text coded made) ∙ ascii-waste.ends-bits n in
    (text, written (ascii-waste.apart n), data_of FullAscii text, apart.0, made, omega (arith, ours), omega (arith, apart.1, ours))
