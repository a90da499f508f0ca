-- For a packet that our writer made at 300 bps, with one header bit flipped or none, and whatever follows, the line is exactly `ours 0` and a newline.
-- Assumes nothing.
use mathlib.Core.Bool.{Bool, false}
use mathlib.Core.List.{List, [], ◌∷◌}
use mathlib.Core.Path.{◌≡◌, refl, ap, ◌∙◌}
use Prim.Native.Nat.{ℕ}
use native.Mathlib.Omega.{arith}
use Rattle.std.specs.Prelude.{Ok}
use Rattle.header.specs.declared.Format.{Format}
use Rattle.header.specs.Formats.{format_number}
use Rattle.terms.specs.Terms.{naming, usual}
use Rattle.writer.specs.Writer.{our_packet, Writes}
use Rattle.demands.specs.Judging.{just_ours}
use Rattle.demands.specs.Makers.{Flipped, arriving}
use Rattle.demands.proofs.Promised.{kept-naming}
use Rattle.lines.specs.Line.{decimal_in, decimal, decimals, spaced, line as line_with}
use Rattle.judge_report.specs.Line.{line_of}
use Rattle.judge_report.specs.Report.{Prints}

-- in ASCII
abbrev pub printed : List ℕ
printed = 111 ∷ 117 ∷ 114 ∷ 115 ∷ 32 ∷ 48 ∷ 10 ∷ []

told : line_of just_ours ≡ printed
unfolding decimal_in decimal decimals spaced line_with
told = refl

pub ours : {line : List ℕ} (format : Format) (sync : Bool) (text entry exit : List ℕ) (n : ℕ)
    → Writes (usual false) (format_number format) sync text entry (Ok n) exit → (word : ℕ) → Flipped (naming 1 false) (our_packet format sync text) word
    → (after : List ℕ) → Prints (arriving word (our_packet format sync text) after) line → line ≡ printed
ours format sync text entry exit n writes word flipped after p =
    p.is
    ∙ ap line_of
    ((kept-naming 1 false).judging.ours-as-ours (omega arith) (usual false) (omega arith) format sync text entry exit n writes word flipped after p.answer
    p.judges)
    ∙ told
