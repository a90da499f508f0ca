-- What the reader answers of a packet that can be read, by the room for its text.
-- Assumes nothing.
use mathlib.Core.List.{List, ◌++◌}
use mathlib.Core.Path.{◌≡◌, refl, sym, ap, ap₂, ◌∙◌}
use Prim.Native.Nat.{ℕ, ◌≤◌, ◌<◌}
use native.Mathlib.Omega.{arith}
use lib.ListN.{length, drop}
use Rattle.std.specs.Prelude.{Ok, Err}
use Rattle.formats.specs.Data.{Carries}
use Rattle.formats.specs.Steps.Text.{HasRoom, PutsText}
use Rattle.formats.proofs.Formats.{carries-one}
use Rattle.refusals.specs.declared.ReadRefusal.{ReadRefusal}
use Rattle.refusals.specs.declared.ReadRefusal.TheVariants.{Packet, NoRoom}
use Rattle.refusals.specs.Match.{reader_turn}
use Rattle.refusals.specs.Refusals.{number_in, read_told}
use Rattle.terms.specs.declared.Terms.{Terms}
use Rattle.examine.specs.declared.Reading.{Reading}
use Rattle.examine.specs.Examine.{Accepts}
use Rattle.reader.specs.Reader.{ReadFault, Reads}
use Rattle.terms.specs.Terms.{MayBeNamed}
use Rattle.examine.proofs.AcceptedData as accepted
use Rattle.examine.proofs.ExamineOnce.{accepts-no-fault}

module _ (terms : Terms) (packet : List ℕ) where
  -- the text's length, as the reading has it
  pub long : (reading : Reading) (text : List ℕ) → Accepts terms packet reading text → reading.text_length ≡ length text
  long reading text a = ap (λ (r : Reading). r.text_length) a.is

  module _ (named : MayBeNamed terms) where
    before : (reading : Reading) (text : List ℕ) → Accepts terms packet reading text → (room : ℕ) (other : ReadRefusal)
        → reader_turn (number_in (read_told other)) < reader_turn 8 → ReadFault terms packet room other → ⊥
    before reading text a room (Packet r) lt f = accepts-no-fault terms named packet reading text a r f
    before reading text a room (NoRoom n) lt f = omega arith

    -- there is no room for it
    pub no_room : (entry : List ℕ) (reading : Reading) (text : List ℕ) → Accepts terms packet reading text → (needed : ℕ) → needed ≡ reading.text_length
        → length entry < needed → Reads terms packet entry (Err (NoRoom needed)) entry
    no_room entry reading text a needed e short = (
      record {
        fault = (a.header, a.allowed.framed.near, (a.format, a.allowed.framed.typed, (text, a.allowed.carries, sym (e ∙ long reading text a), short)));
        first = before reading text a (length entry);
      },
      refl,
    )

  -- there is
  pub read-into : (entry : List ℕ) (reading : Reading) (text : List ℕ) → Accepts terms packet reading text → reading.text_length ≤ length entry
      → Reads terms packet entry (Ok reading) (text ++ drop (length text) entry)
  read-into entry reading text a held = (text, a, omega (arith, long reading text a), refl)

  -- ---- the data, as the code takes it

  module _ (named : MayBeNamed terms) (reading : Reading) (text : List ℕ) (a : Accepts terms packet reading text) where
    abbrev data-in : List ℕ
    data-in = accepted.data-in terms packet named.bytes reading text a

    carried : Carries reading.format text data-in
    carried = accepted.carried terms packet named.bytes reading text a

    module _ (entry : List ℕ) (held : reading.text_length ≤ length entry) where
      pub room : HasRoom reading.format data-in (length entry)
      room = record { text = text; carries = carried; fits = omega (arith, long reading text a) }

      -- what was put into the buffer is the text
      pub put_in : (exit : List ℕ) (r : ℕ) → PutsText reading.format data-in entry exit r → Reads terms packet entry (Ok reading) exit
      put_in exit r p =
          let same = carries-one reading.format p.text text data-in p.carries carried in (
            text,
            a,
            omega (arith, long reading text a),
            p.front.whole
                ∙ ap₂ (λ (l : List ℕ) (n : ℕ). l ++ drop n entry) same (p.front.size ∙ ap length same),
          )
