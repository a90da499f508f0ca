-- The line of an answer (RULES, Reading program): `ok`, the format, the sync bit, how many bits were mended, their mask, the data's length and the text's,
-- the mask as eight hexadecimal digits and the others in decimal, parted by single spaces; or `refused` and the refusal's number, without the number that
-- comes with it.
-- Assumes nothing.
use Rattle.std.specs.Prelude.{List, [], ◌∷◌, ℕ, Ok, Err}
use Rattle.header.specs.Fields.{one_if}
use Rattle.header.specs.Formats.{format_number}
use Rattle.lines.specs.Line.{decimal, hexadecimal, line, refused}
use Rattle.reader.specs.Reader.{ReadAnswer}
use Rattle.refusals.specs.Refusals.{number_in, read_told}

-- `ok` in ASCII
abbrev pub ok : List ℕ
ok = 111 ∷ 107 ∷ []

abbrev pub line_of : ReadAnswer → List ℕ
line_of (Ok reading) =
    line ok
    (decimal (format_number reading.format)
    ∷ decimal (one_if reading.sync)
    ∷ decimal reading.mended
    ∷ hexadecimal reading.mask
    ∷ decimal reading.data_length
    ∷ decimal reading.text_length
    ∷ [])
line_of (Err refusal) = line refused (decimal (number_in (read_told refusal)) ∷ [])
