-- What is printed of an answer is its line.
-- Assumes nothing.
use mathlib.Core.Bool.{true, false}
use mathlib.Core.List.{List, [], ◌∷◌, ◌++◌, append-nil}
use mathlib.Core.Path.{◌≡◌, sym, ◌∙◌}
use Prim.Native.Nat.{ℕ, ◌-◌, ◌^◌, ◌<◌}
use Rattle.std.specs.Fmt.{digits, format_spec, padded_integral, decimal as decimal_printed}
use Rattle.header.specs.Fields.{one_if}
use Rattle.header.specs.Formats.{format_number}
use Rattle.examine.specs.declared.Reading.{Reading}
use Rattle.std.specs.declared.result.Result.TheVariants.{Ok, Err}
use Rattle.refusals.specs.declared.ReadRefusal.{ReadRefusal}
use Rattle.refusals.specs.Refusals.{number_in, read_told}
use Rattle.lines.specs.Line.{decimal, hexadecimal, refused, spaced, line}
use Rattle.lines.proofs.Shown.{decimal-shown, hexadecimal-shown, one_printed, one-shown}
use Rattle.lines.proofs.Told.{refused-is}
use Rattle.report.specs.Line.{ok, line_of}
use Rattle.report.proofs.Told.{told-accepted, told-refused}

-- the mask as it is printed
abbrev mask_printed : ℕ → List ℕ
mask_printed mask = padded_integral (format_spec 32 0 4 8 (2 ^ 64 - 1)) false [] (digits 16 true mask)

abbrev pub accepted_printed : (format sync mended mask long count : ℕ) → List ℕ
accepted_printed format sync mended mask long count =
    (ok
    ++ (32 ∷ (decimal_printed format
    ++ (32 ∷ (decimal_printed sync
    ++ (32 ∷ (decimal_printed mended ++ (32 ∷ (mask_printed mask ++ (32 ∷ (decimal_printed long ++ (32 ∷ decimal_printed count))))))))))))
    ++ (10 ∷ [])

pub accepted-shown : {format sync mended mask long count : ℕ} (reading : Reading) → format < 2 ^ 64 → sync < 2 ^ 64 → mended < 2 ^ 64 → mask < 2 ^ 32
    → long < 2 ^ 64 → count < 2 ^ 64 → format ≡ format_number reading.format → sync ≡ one_if reading.sync → mended ≡ reading.mended
    → mask ≡ reading.mask → long ≡ reading.data_length → count ≡ reading.text_length
    → accepted_printed format sync mended mask long count ≡ line_of (Ok reading)
unfolding line spaced
accepted-shown {format} {sync} {mended} {mask} {long} {count} reading a b c d e f is-format is-sync is-mended is-mask is-long is-count =
    let last = decimal-shown count f ∙ sym (append-nil (decimal count)) in
    (λ i.
    (ok
    ++ (32 ∷ (decimal-shown format a i
    ++ (32 ∷ (decimal-shown sync b i
    ++ (32 ∷ (decimal-shown mended c i ++ (32 ∷ (hexadecimal-shown mask d i ++ (32 ∷ (decimal-shown long e i ++ (32 ∷ last i))))))))))))
    ++ (10 ∷ []))
    ∙ told-accepted format sync mended mask long count reading is-format is-sync is-mended is-mask is-long is-count

pub refused-shown : {number : ℕ} (refusal : ReadRefusal) → number < 2 ^ 64 → number ≡ number_in (read_told refusal)
    → one_printed refused number ≡ line_of (Err refusal)
refused-shown {number} refusal fits is = one-shown refused number fits ∙ refused-is number ∙ told-refused refusal number is
