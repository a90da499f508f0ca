-- For every packet one line, whatever bytes the text buffer has; so the promise of `packet_line` leaves one answer and one content of the buffer (that of
-- `line` by `one-front` of `codes`). And the line of a packet that is refused.
-- Assumes nothing.
use mathlib.Core.Bool.{false}
use mathlib.Core.List.{List, [], ◌∷◌, ◌++◌}
use mathlib.Core.Path.{◌≡◌, refl, sym, ap, subst, ◌∙◌}
use Prim.Native.Nat.{ℕ, ◌≤◌}
use native.Mathlib.Omega.{arith}
use lib.ListN.{length, drop}
use Rattle.std.specs.Prelude.{Ok, Err}
use Rattle.codes.specs.Steps.Laid.{Fronted}
use Rattle.codes.proofs.OneAnswer.{one-front}
use Rattle.refusals.specs.declared.ReadRefusal.{ReadRefusal}
use Rattle.refusals.specs.declared.ReadRefusal.TheVariants.{Packet}
use Rattle.refusals.specs.declared.ExamineRefusal.TheVariants.{NoHeader}
use Rattle.reader.specs.Reader.{ReadAnswer, ReadRefuses, Reads}
use Rattle.terms.specs.Terms.{naming}
use Rattle.reader.proofs.ReadOnce.{reads-one}
use Rattle.lines.specs.Line.{decimal_in, decimal, spaced, line}
use Rattle.report.specs.Line.{line_of}
use Rattle.report.specs.Report.{Prints}
use Rattle.report.specs.Steps.Put.{PutsLine}

-- another buffer of that length is answered alike
alike : (packet entry entry' : List ℕ) (answer : ReadAnswer) (exit : List ℕ) → length entry ≡ length entry' → Reads (naming 2 false) packet entry answer exit
    → (exit' : List ℕ) × Reads (naming 2 false) packet entry' answer exit'
alike packet entry entry' (Ok reading) exit e (text, accepts, held, is) =
    (text ++ drop (length text) entry', (text, accepts, subst (λ (n : ℕ). length text ≤ n) e held, refl))
alike packet entry entry' (Err refusal) exit e (refuses, is) =
    (entry', (subst (λ (n : ℕ). ReadRefuses (naming 2 false) packet n refusal) e refuses, refl))

pub one_line : {packet a b : List ℕ} → Prints packet a → Prints packet b → a ≡ b
one_line {packet} p q =
    let other = alike packet q.entry p.entry q.answer q.exit (q.lent ∙ sym p.lent) q.reads in
    let one = reads-one (naming 2 false) (omega arith) packet p.entry p.answer q.answer p.exit other.0 p.reads other.1 in
    p.is ∙ ap line_of one.0 ∙ sym q.is

pub puts_one : {packet out out' out'' : List ℕ} {r s : ℕ} → PutsLine packet out out' r → PutsLine packet out out'' s → (out' ≡ out'') × (r ≡ s)
puts_one {packet} {out} {out'} {out''} {r} {s} p q =
    one-front p.front (subst (λ (l : List ℕ). Fronted l out out'' s) (sym (one_line p.prints q.prints)) q.front)

-- ---- a packet that is refused

-- for every text buffer
pub prints-refused : {packet printed : List ℕ} (refusal : ReadRefusal) → ((room : ℕ) → ReadRefuses (naming 2 false) packet room refusal) → Prints packet printed
    → printed ≡ line_of (Err refusal)
prints-refused {packet} refusal refuses p =
    one_line p
    (record {
      entry = p.entry;
      exit = p.entry;
      answer = Err refusal;
      lent = p.lent;
      reads = (refuses (length p.entry), refl);
      is = refl;
    })

-- `refused 2` and a newline: the line of P6
pub refused-two : line_of (Err (Packet NoHeader))
    ≡ 114 ∷ 101 ∷ 102 ∷ 117 ∷ 115 ∷ 101 ∷ 100 ∷ 32 ∷ 50 ∷ 10 ∷ []
unfolding decimal_in decimal spaced line
refused-two = refl
