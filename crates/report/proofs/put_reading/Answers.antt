-- `report::put_reading` meets its contract: the line's pieces, one behind the other.
-- Assumes nothing.
use native.Mathlib.Omega.{arith}
use Rattle.lines.proofs.Told.{front_same, end-held, line-put}
use Rattle.report.proofs.Told.{told-accepted, counts-held, mask-held, lengths-held, behind-lengths}
use Rattle.report.proofs.put_reading.Goals as goal

-- ---- the places before each piece

pub put_word-counted-requires : goal.put_word-counted-requires
put_word-counted-requires c =
    let s = c in
    counts-held _ _ _ s.args.reading.mask s.args.reading.data_length s.args.reading.text_length s.args.out.now s.requires

pub put_mask-masked-requires : goal.put_mask-masked-requires
put_mask-masked-requires c =
    let word = c in
    let s = word in
    mask-held _ _ _ _ s.args.reading.data_length s.args.reading.text_length s.args.out.now s.requires
    word.put_word-counted.new.out word.put_word-counted.result word.put_word-counted.ensures

pub put_spaced-end-requires : goal.put_spaced-end-requires
put_spaced-end-requires c =
    let mask = c in
    let word = mask in
    let s = word in
    lengths-held _ _ _ _ _ _ s.args.out.now s.requires word.put_word-counted.new.out word.put_word-counted.result word.put_word-counted.ensures
    mask.put_mask-masked.new.out mask.put_mask-masked.result mask.put_mask-masked.ensures

pub put_end-requires : goal.put_end-requires
put_end-requires c =
    let lengths = c in
    let mask = lengths in
    let word = mask in
    let s = word in
    end-held
    (behind-lengths _ _ _ _ _ _ s.args.out.now s.requires word.put_word-counted.new.out word.put_word-counted.result word.put_word-counted.ensures
    mask.put_mask-masked.new.out mask.put_mask-masked.result mask.put_mask-masked.ensures
    lengths.put_spaced-end.new.out lengths.put_spaced-end.result lengths.put_spaced-end.ensures)

pub returns : goal.returns
returns c =
    let lengths = c in
    let mask = lengths in
    let word = mask in
    let s = word in
    let synced = word in
    front_same
    (line-put
    (behind-lengths _ _ _ _ _ _ s.args.out.now s.requires word.put_word-counted.new.out word.put_word-counted.result word.put_word-counted.ensures
    mask.put_mask-masked.new.out mask.put_mask-masked.result mask.put_mask-masked.ensures
    lengths.put_spaced-end.new.out lengths.put_spaced-end.result lengths.put_spaced-end.ensures) c.put_end.ensures)
    (told-accepted _ _ _ _ _ _ s.args.reading
    (omega (arith, synced.number.ensures))
    (omega (arith, synced.one_if.ensures))
    (omega arith)
    (omega arith)
    (omega arith)
    (omega arith))
