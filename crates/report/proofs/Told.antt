-- The line of an answer, piece by piece and number by number, so that a wrong one is refused where it stands; and what the line and the reading say together.
-- Assumes nothing.
use mathlib.Core.Bool.{false}
use mathlib.Core.List.{List, [], ◌∷◌, ◌++◌, append_assoc}
use mathlib.Core.Path.{◌≡◌, refl, sym, ap, ap₂, ◌∙◌, subst, subst₂}
use Prim.Native.Nat.{ℕ, ◌+◌, ◌≤◌}
use native.Mathlib.Omega.{arith}
use lib.ListN.{length, length-append}
use Rattle.std.specs.Prelude.{Ok, Err}
use Rattle.header.specs.Fields.{one_if}
use Rattle.header.specs.Formats.{format_number}
use Rattle.examine.specs.declared.Reading.{Reading}
use Rattle.refusals.specs.declared.ReadRefusal.{ReadRefusal}
use Rattle.refusals.specs.Refusals.{number_in, read_told}
use Rattle.reader.specs.Reader.{ReadAnswer, Reads}
use Rattle.terms.specs.Terms.{most_at}
use Rattle.lines.specs.Line.{refused, decimal, decimals, hexadecimal, spaced, line}
use Rattle.lines.specs.Steps.Put.{room, PutsRow}
use Rattle.lines.proofs.Decimal.{spaced-within, hexadecimal-length}
use Rattle.lines.proofs.Putting.{Still, still-all, piece-held, still-next}
use Rattle.lines.proofs.Told.{spaced-append}
use Rattle.report.specs.Line.{ok, line_of}
use Rattle.report.specs.Report.{Prints}

-- a piece in front of others
fore : {n m : List ℕ} {rest rest' : List (List ℕ)} → n ≡ m → rest ≡ rest' → n ∷ rest ≡ m ∷ rest'
fore = ap₂ (λ (n : List ℕ) (rest : List (List ℕ)). n ∷ rest)

-- ---- a packet that was read: five numbers, and the mask among them

module _ (format sync mended mask long count : ℕ) where
  abbrev counts : List ℕ
  counts = format ∷ sync ∷ mended ∷ []

  abbrev lengths : List ℕ
  lengths = long ∷ count ∷ []

  abbrev whole : List ℕ
  whole = line ok (decimal format ∷ decimal sync ∷ decimal mended ∷ hexadecimal mask ∷ decimal long ∷ decimal count ∷ [])

  pub told-accepted : (reading : Reading) → format ≡ format_number reading.format → sync ≡ one_if reading.sync → mended ≡ reading.mended
      → mask ≡ reading.mask → long ≡ reading.data_length → count ≡ reading.text_length → whole ≡ line_of (Ok reading)
  told-accepted reading f s m k l c =
      ap (line ok)
      (fore (ap decimal f) (fore (ap decimal s) (fore (ap decimal m) (fore (ap hexadecimal k) (fore (ap decimal l) (fore (ap decimal c) refl))))))

  pieces : whole ≡ (ok ++ spaced (decimals counts)) ++ ((32 ∷ hexadecimal mask) ++ (spaced (decimals lengths) ++ (10 ∷ [])))
  unfolding line decimals spaced
  pieces =
      ap (λ (row : List ℕ). ok ++ (row ++ (10 ∷ []))) (spaced-append (decimals counts) (hexadecimal mask ∷ decimals lengths))
      ∙ ap (λ (row : List ℕ). ok ++ row)
      (append_assoc (spaced (decimals counts)) ((32 ∷ hexadecimal mask) ++ spaced (decimals lengths)) (10 ∷ [])
      ∙ ap (λ (row : List ℕ). spaced (decimals counts) ++ row) (append_assoc (32 ∷ hexadecimal mask) (spaced (decimals lengths)) (10 ∷ [])))
      ∙ sym (append_assoc ok (spaced (decimals counts)) ((32 ∷ hexadecimal mask) ++ (spaced (decimals lengths) ++ (10 ∷ []))))

  module _ (entry : List ℕ) (held : room ≤ length entry) where
    pub counts-held : length ok + length (spaced (decimals counts)) ≤ length entry
    counts-held = omega (arith, held, spaced-within counts)

    whole-held : 0 + length whole ≤ length entry
    whole-held =
        omega (
          arith,
          held,
          ap length pieces,
          length-append (ok ++ spaced (decimals counts)) ((32 ∷ hexadecimal mask) ++ (spaced (decimals lengths) ++ (10 ∷ []))),
          length-append ok (spaced (decimals counts)),
          length-append (32 ∷ hexadecimal mask) (spaced (decimals lengths) ++ (10 ∷ [])),
          length-append (spaced (decimals lengths)) (10 ∷ []),
          spaced-within counts,
          hexadecimal-length mask,
          spaced-within lengths,
        )

    all : Still whole entry 0 ((ok ++ spaced (decimals counts)) ++ ((32 ∷ hexadecimal mask) ++ (spaced (decimals lengths) ++ (10 ∷ [])))) entry 0
    all = subst (λ (left : List ℕ). Still whole entry 0 left entry 0) pieces (still-all whole entry 0 whole-held)

    module _ (out : List ℕ) (at : ℕ) (p : PutsRow (ok ++ spaced (decimals counts)) entry out 0 at) where
      behind-counts : Still whole entry 0 ((32 ∷ hexadecimal mask) ++ (spaced (decimals lengths) ++ (10 ∷ []))) out at
      behind-counts = still-next (ok ++ spaced (decimals counts)) ((32 ∷ hexadecimal mask) ++ (spaced (decimals lengths) ++ (10 ∷ []))) all p

      pub mask-held : at + length (32 ∷ hexadecimal mask) ≤ length out
      mask-held = omega (arith, piece-held (32 ∷ hexadecimal mask) (spaced (decimals lengths) ++ (10 ∷ [])) behind-counts)

      module _ (masked : List ℕ) (after : ℕ) (q : PutsRow (32 ∷ hexadecimal mask) out masked at after) where
        behind-mask : Still whole entry 0 (spaced (decimals lengths) ++ (10 ∷ [])) masked after
        behind-mask = still-next (32 ∷ hexadecimal mask) (spaced (decimals lengths) ++ (10 ∷ [])) behind-counts q

        pub lengths-held : after + length (spaced (decimals lengths)) ≤ length masked
        lengths-held = omega (arith, piece-held (spaced (decimals lengths)) (10 ∷ []) behind-mask)

        module _ (last : List ℕ) (end : ℕ) (w : PutsRow (spaced (decimals lengths)) masked last after end) where
          pub behind-lengths : Still whole entry 0 (10 ∷ []) last end
          behind-lengths = still-next (spaced (decimals lengths)) (10 ∷ []) behind-mask w

pub told-refused : (refusal : ReadRefusal) (number : ℕ) → number ≡ number_in (read_told refusal) → line refused (decimal number ∷ []) ≡ line_of (Err refusal)
told-refused refusal number e = ap (λ (n : ℕ). line refused (decimal n ∷ [])) e

-- ---- a packet's line

pub reported : {packet : List ℕ} (entry exit : List ℕ) (answer : ReadAnswer) (mend most : ℕ) → Reads (record { mend = mend; most = most }) packet entry answer exit
    → mend ≡ 2 → most ≡ most_at false → length entry ≡ 65536 → Prints packet (line_of answer)
reported {packet} entry exit answer mend most reads named at-300 lent =
    record {
      entry = entry;
      exit = exit;
      answer = answer;
      lent = lent;
      reads = subst₂ (λ (m n : ℕ). Reads (record { mend = m; most = n }) packet entry answer exit) named at-300 reads;
      is = refl;
    }
