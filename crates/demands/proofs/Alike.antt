-- What the writer promises is the same under all terms of as many data bytes: it says nothing of the bits to mend.
-- Assumes nothing.
use mathlib.Core.Bool.{Bool}
use mathlib.Core.List.{List}
use mathlib.Core.Path.{◌≡◌, sym, subst}
use Prim.Native.Nat.{ℕ, ◌<◌}
use native.Mathlib.Omega.{arith}
use lib.ListN.{length}
use Rattle.std.specs.Prelude.{Ok, Err}
use Rattle.formats.specs.Data.{data_of}
use Rattle.refusals.specs.declared.WriteRefusal.{WriteRefusal}
use Rattle.refusals.specs.declared.WriteRefusal.TheVariants.{OtherFormat, Empty, NoCode, TooLong, NoRoom}
use Rattle.terms.specs.declared.Terms.{Terms}
use Rattle.writer.specs.Writer.{WriteAnswer, WriteFault, Writes}

fault-alike : (s t : Terms) → s.most ≡ t.most → (number : ℕ) (text : List ℕ) (room : ℕ) (r : WriteRefusal) → WriteFault s number text room r
    → WriteFault t number text room r
fault-alike s t e number text room OtherFormat f = f
fault-alike s t e number text room Empty f = f
fault-alike s t e number text room (NoCode index) f = f
fault-alike s t e number text room TooLong (format, is, long) = (format, is, subst (λ (n : ℕ). n < length (data_of format text)) e long)
fault-alike s t e number text room (NoRoom needed) f = f

pub writes-alike : (s t : Terms) → s.most ≡ t.most → (number : ℕ) (sync : Bool) (text entry exit : List ℕ) (answer : WriteAnswer)
    → Writes s number sync text entry answer exit → Writes t number sync text entry answer exit
writes-alike s t e number sync text entry exit (Ok n) (format, a, is) = (
  format,
  record { named = a.named; some = a.some; coded = a.coded; few = omega (arith, e, a.few); fits = a.fits; held = a.held },
  is,
)
writes-alike s t e number sync text entry exit (Err r) (p, same) = (
  record {
    fault = fault-alike s t e number text (length entry) r p.fault;
    first = λ other lt f. p.first other lt (fault-alike t s (sym e) number text (length entry) other f);
  },
  same,
)
