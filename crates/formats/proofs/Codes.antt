-- How many codes data has: one number, no more than the ceiling, and as many in some data of any length; and how many our writer's has.
-- Assumes nothing.
use mathlib.Core.List.{List, [], ◌∷◌}
use mathlib.Core.Path.{◌≡◌, refl, sym, ap, subst, ◌∙◌}
use Prim.Native.Nat.{ℕ, ◌*◌, ◌≤◌}
use native.Mathlib.Omega.{arith}
use lib.Dec.{lit<}
use lib.ListN.{length, replicate, length-replicate}
use Rattle.header.specs.declared.Format.{Format}
use Rattle.header.specs.declared.Format.TheVariants.{Open, PseudoBinary, Numeric, Shef, FullAscii}
use Rattle.codes.specs.Consecutive.{code_for}
use Rattle.codes.specs.Pack.{low, gap}
use Rattle.codes.proofs.MostCodes.{most-codes}
use Rattle.codes.proofs.OneReading.{one-count, one-before}
use Rattle.codes.proofs.SizeBounds.{few-codes, few-before}
use Rattle.full_ascii.specs.Table as ascii
use Rattle.full_ascii.proofs.Table as ascii-table
use Rattle.full_ascii.proofs.Writer as ascii-writer
use Rattle.numeric.specs.Table as numeric
use Rattle.numeric.specs.Steps.Text.{text_of}
use Rattle.numeric.proofs.Data.{text-built, length-spelled, count-built}
use Rattle.numeric.proofs.Table as numeric-table
use Rattle.numeric.proofs.Writer as numeric-writer
use Rattle.pseudo_binary.specs.Table as pseudo
use Rattle.pseudo_binary.proofs.Bound as pseudo-bound
use Rattle.pseudo_binary.proofs.Entries as pseudo-entries
use Rattle.pseudo_binary.proofs.Table as pseudo-table
use Rattle.pseudo_binary.proofs.Writer as pseudo-writer
use Rattle.shef.specs.Table as shef
use Rattle.shef.proofs.Table as shef-table
use Rattle.shef.proofs.Writer as shef-writer
use Rattle.formats.specs.Ceiling.{ceiling}
use Rattle.formats.specs.Data.{Carries, Unreadable, codes_in, codes_before, CarriesIn, UnreadableAfter, AllCoded, data_of, codes_of}
use Rattle.formats.proofs.Formats.{carries-one, unreadable-one}

-- ---- one number

pub codes-one : (format : Format) (t u carried : List ℕ) (p : Carries format t carried) (q : Carries format u carried)
    → codes_in format t carried p ≡ codes_in format u carried q
codes-one Open t u carried p q = refl
codes-one PseudoBinary t u carried p q = one-count pseudo-table.laws p q
codes-one Numeric t u carried p q = one-count numeric-table.laws p.codes q.codes
codes-one Shef t u carried p q = one-count shef-table.laws p q
codes-one FullAscii t u carried p q = one-count ascii-table.laws p q

pub before-one : (format : Format) (i j : ℕ) (carried : List ℕ) (p : Unreadable format carried i) (q : Unreadable format carried j)
    → codes_before format carried i p ≡ codes_before format carried j q
before-one Open i j carried p q = refl
before-one PseudoBinary i j carried p q = one-before pseudo-table.laws p q
before-one Numeric i j carried p q = one-before numeric-table.laws p q
before-one Shef i j carried p q = one-before shef-table.laws p q
before-one FullAscii i j carried p q = one-before ascii-table.laws p q

-- and one of data that is the same
pub codes_same : (format : Format) (t u c d : List ℕ) → c ≡ d → (p : Carries format t c) (q : Carries format u d) → codes_in format t c p ≡ codes_in format u d q
codes_same format t u c d e p =
    subst (λ (l : List ℕ). (q : Carries format u l) → codes_in format t c p ≡ codes_in format u l q) e (λ q. codes-one format t u c p q)

-- with one text, or one place
pub carries-in-one : (format : Format) (t u carried : List ℕ) {k l : ℕ} → CarriesIn format carried t k → CarriesIn format carried u l → (t ≡ u) × (k ≡ l)
carries-in-one format t u carried p q =
    (carries-one format t u carried p.0 q.0, sym p.1 ∙ codes-one format t u carried p.0 q.0 ∙ q.1)

pub unreadable-after-one : (format : Format) (i j : ℕ) (carried : List ℕ) {k l : ℕ} → UnreadableAfter format carried i k → UnreadableAfter format carried j l
    → (i ≡ j) × (k ≡ l)
unreadable-after-one format i j carried p q =
    (unreadable-one format i j carried p.0 q.0, sym p.1 ∙ before-one format i j carried p.0 q.0 ∙ q.1)

-- ---- no more than the ceiling

pub codes-few : (format : Format) (text carried : List ℕ) (built : Carries format text carried) → codes_in format text carried built ≤ ceiling format (length carried)
unfolding ceiling
codes-few Open text carried built = omega arith
codes-few PseudoBinary text carried built = omega (arith, few-codes pseudo.scheme 6 16 pseudo-bound.all-sized carried built)
codes-few Numeric text carried built = omega (arith, few-codes numeric.scheme 4 1 numeric-table.all-sized carried built.codes)
codes-few Shef text carried built = omega (arith, few-codes shef.scheme 5 2 shef-table.all-sized carried built)
codes-few FullAscii text carried built = omega (arith, few-codes ascii.scheme 6 2 ascii-table.all-sized carried built)

pub before-few : (format : Format) (carried : List ℕ) (i : ℕ) (stuck : Unreadable format carried i) → codes_before format carried i stuck ≤ ceiling format (length carried)
unfolding ceiling
before-few Open carried i stuck = omega arith
before-few PseudoBinary carried i stuck = omega (arith, few-before pseudo.scheme 6 16 pseudo-bound.all-sized carried stuck)
before-few Numeric carried i stuck = omega (arith, few-before numeric.scheme 4 1 numeric-table.all-sized carried stuck)
before-few Shef carried i stuck = omega (arith, few-before shef.scheme 5 2 shef-table.all-sized carried stuck)
before-few FullAscii carried i stuck = omega (arith, few-before ascii.scheme 6 2 ascii-table.all-sized carried stuck)

-- ---- which some data of any length reaches

abbrev pub Reaching : Format → ℕ → Type 0
Reaching format n = (text carried : List ℕ) × (length carried ≡ n) × CarriesIn format carried text (ceiling format n)

pub reached : (format : Format) (n : ℕ) → Reaching format n
unfolding ceiling gap low code_for pseudo.indicator pseudo.most ascii.six
reached Open n = (replicate n 0, replicate n 0, length-replicate {A = ℕ} n 0, (refl, refl))
reached PseudoBinary n =
    most-codes pseudo.scheme pseudo-table.all-bits (pseudo.indicator pseudo.spaces 0) (pseudo-entries.indicator-in pseudo.spaces 0 (lit< tt)) refl 6 _ n
    refl (omega arith) (omega arith)
reached Numeric n =
    let carried : List ℕ = replicate n 0 in
    let size : length carried ≡ n = length-replicate {A = ℕ} n 0 in
    (text_of carried, carried, size, (text-built carried, count-built (text_of carried) carried (text-built carried) ∙ length-spelled carried ∙ ap (λ (k : ℕ). 2 * k) size))
reached Shef n =
    most-codes shef.scheme shef-table.all-bits (code_for 5 0 (48 ∷ [])) shef-table.shortest-in refl 5 _ n refl (omega arith) (omega arith)
reached FullAscii n =
    most-codes ascii.scheme ascii-table.all-bits (ascii.six 32) ascii-table.shortest-in refl 6 _ n refl (omega arith) (omega arith)

-- ---- of our writer's data

pub ours-codes : (format : Format) (text u : List ℕ) → AllCoded format text → (b : Carries format u (data_of format text))
    → codes_in format u (data_of format text) b ≡ codes_of format text
ours-codes Open text u h b = refl
ours-codes PseudoBinary text u h b = ap length ((pseudo-writer.writer-laws).ours-entries pseudo-table.laws text u h b)
ours-codes Numeric text u h b = ap length (numeric-writer.ours-entries text u b)
ours-codes Shef text u h b = ap length ((shef-writer.writer-laws).ours-entries shef-table.laws text u h b)
ours-codes FullAscii text u h b = ap length ((ascii-writer.writer-laws).ours-entries ascii-table.laws text u h b)
