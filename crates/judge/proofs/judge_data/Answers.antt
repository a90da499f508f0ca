-- `judge::judge_data` meets its contract.
-- Assumes nothing.
use native.Mathlib.Omega.{arith}
use mathlib.Core.Path.{subst⁻¹}
use Rattle.formats.proofs.Formats.{carries-coded}
use Rattle.apart.specs.Steps.Parting.{Comparable}
use Rattle.judge.proofs.Comparing.{front-part, no_longer, comparable}
use Rattle.judge.proofs.judge_data.Goals as goal

pub put_data-bytes-requires : goal.put_data-bytes-requires
put_data-bytes-requires c =
    let s = c in
    let theirs = s.args.theirs.now in
    let text = s.args.text.now in (
      carries-coded s.args.format text theirs s.requires.carries,
      omega (arith, s.requires.room, no_longer s.args.format theirs text s.requires.carries),
    )

pub compare-requires : goal.compare-requires
compare-requires c =
    let d = c in
    let s = d in
    subst⁻¹ (Comparable s.args.theirs.now) (front-part d.put_data-bytes.ensures)
    (comparable s.args.format s.args.theirs.now s.args.text.now s.requires.carries s.requires.few)
