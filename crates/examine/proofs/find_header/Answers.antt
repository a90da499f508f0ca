-- `examine::find_header` meets its contract: at each return the conditions of the tests passed do not hold, and the next one's does.
-- Assumes nothing.
use mathlib.Core.Bool.{Bool}
use mathlib.Core.List.{List}
use mathlib.Core.Logic.{inl, inr}
use mathlib.Core.Path.{◌≡◌, sym, ap, ◌∙◌, subst}
use Prim.Native.Nat.{ℕ, ◌≤◌}
use native.Mathlib.Omega.{arith}
use lib.Bits.{bit_xor}
use lib.ListN.{length, get_or}
use Rattle.header.specs.declared.Format.{Format}
use Rattle.header.specs.declared.Header.{Header}
use Rattle.header.specs.Fields.{fields_in, word_of}
use Rattle.header.specs.Formats.{HasFormat}
use Rattle.header.specs.Valid.{length_in}
use Rattle.distance.specs.Distance.{ValidWithin, distance}
use Rattle.examine.specs.Examine.{Framed}
use Rattle.packet.specs.Packet.{whole_length, received}
use Rattle.examine.specs.Steps.Reading.{HeaderFound}
use Rattle.terms.specs.declared.Terms.{Terms}
use Rattle.terms.specs.Terms.{MayBeNamed}
use Rattle.examine.proofs.ExamineStages.{Clear, clear-seventeen, clear-one, clear-two, clear-three, clear-four, clear-five}
use Rattle.examine.proofs.find_header.Goals.{In-Mended, In-Some}
use Rattle.examine.proofs.find_header.Goals as goal

-- the word that came is the packet's
came : (packet : List ℕ) (word : ℕ) → word ≡ word_of (get_or packet 0 0) (get_or packet 1 0) (get_or packet 2 0) (get_or packet 3 0) → word ≡ received packet
unfolding received
came packet word e = e

near_by : (limit word packet bits : ℕ) → word ≡ packet → ValidWithin limit word bits → ValidWithin limit packet bits
near_by limit word packet bits e = subst (λ (w : ℕ). ValidWithin limit w bits) e

length-is : (bits : ℕ) (fields : Header) → fields ≡ fields_in bits → fields.length ≡ length_in bits
unfolding fields_in
length-is bits fields e = ap (λ (f : Header). f.length) e

-- ---- what is known where the packet is read as a header

near : (c : In-Mended) → ValidWithin c.args.terms.mend (received c.args.packet.now) c.in-Mended.bits
near c = near_by _ _ _ _ (came c.args.packet.now _ c.word-received.ensures) c.in-Mended.ensures.0

-- and that header is of a format of ours
record Typed (terms : Terms) (packet : List ℕ) (bits : ℕ) (fields : Header) (format : Format) : Type 0 where
  named : MayBeNamed terms
  four : 4 ≤ length packet
  near : ValidWithin terms.mend (received packet) bits
  typed : HasFormat (fields_in bits) format
  long : fields.length ≡ length_in bits

typed : (c : In-Some) → Typed c.args.terms c.args.packet.now c.in-Mended.bits c.from_bits-fields.result c.in-Some.format
typed c =
    record {
      named = record { bits = omega arith; bytes = c.requires };
      four = omega arith;
      near = near_by _ _ _ _ (came c.args.packet.now _ c.word-received.ensures) c.in-Mended.ensures.0;
      typed = subst (λ (f : Header). HasFormat f c.in-Some.format) c.from_bits-fields.ensures c.in-Some.ensures;
      long = length-is c.in-Mended.bits _ c.from_bits-fields.ensures;
    }

module _ {terms : Terms} {packet : List ℕ} {bits : ℕ} {fields : Header} {format : Format} (t : Typed terms packet bits fields format) where
  -- no condition of a number below 4 holds; and none below 5, where the length is ours
  below-four : Clear terms packet 4
  below-four = clear-four terms packet t.named bits t.near t.four format t.typed

  below-five : 1 ≤ length_in bits → length_in bits ≤ terms.most → Clear terms packet 5
  below-five = clear-five terms packet t.named bits t.near t.four format t.typed

  -- each number of the reading with what it must be, so that a wrong one is refused where it stands
  found : Framed terms packet format bits → (word : ℕ) → word ≡ received packet
      → (sync : Bool) (mended mask codes carried text used : ℕ) → sync ≡ (fields_in bits).sync → mended ≡ distance word bits → mask ≡ bit_xor word bits → codes ≡ 0
      → carried ≡ length_in bits → text ≡ 0 → used ≡ whole_length (length_in bits)
      → HeaderFound terms packet
      (record {
        format = format;
        sync = sync;
        mended = mended;
        mask = mask;
        codes = codes;
        data_length = carried;
        text_length = text;
        used = used;
      })
  found framed word w sync mended mask codes carried text used s m k c d n u = record {
    format = format;
    header = bits;
    framed = framed;
    is = λ i.
        record {
          format = format;
          sync = s i;
          mended = (m ∙ ap (λ (x : ℕ). distance x bits) w) i;
          mask = (k ∙ ap (λ (x : ℕ). bit_xor x bits) w) i;
          codes = c i;
          data_length = d i;
          text_length = n i;
          used = u i;
        };
  }

pub returns-then-terms-gt-MOST_MENDED : goal.returns-then-terms-gt-MOST_MENDED
returns-then-terms-gt-MOST_MENDED c = record { fault = λ few. omega (arith, few, c.if-terms-gt-MOST_MENDED.true); first = clear-seventeen _ _ }

pub returns-then-packet-lt4 : goal.returns-then-packet-lt4
returns-then-packet-lt4 c = record { fault = c.if-packet-lt4.true; first = clear-one _ _ (omega (arith, c.if-terms-gt-MOST_MENDED.false)) }

pub returns-in_default : goal.returns-in_default
returns-in_default c =
    let word = came c.args.packet.now _ c.word-received.ensures in
    record {
      fault = λ header valid. c.in_default.ensures header (near_by _ _ _ _ (sym word) valid);
      first = clear-two _ _ (omega arith) (omega arith);
    }

pub returns-in_default-format : goal.returns-in_default-format
returns-in_default-format c =
    let there = near (goal.at.returns-in_default-format c).In-Mended in
    record {
      fault = (_, there, subst (λ (f : Header). (format : Format) → HasFormat f format → ⊥) c.from_bits-fields.ensures c.in_default-format.ensures);
      first = clear-three _ _ (omega arith) (omega arith) _ there;
    }

pub returns-then-length-eq0 : goal.returns-then-length-eq0
returns-then-length-eq0 c =
    let t = typed (goal.at.returns-then-length-eq0 c).In-Some in
    record { fault = (_, t.near, inl (omega (arith, t.long, c.if-length-eq0.true))); first = below-four t }

pub returns-then-most-length : goal.returns-then-most-length
returns-then-most-length c =
    let t = typed (goal.at.returns-then-most-length c).In-Some in
    record { fault = (_, t.near, inr (omega (arith, t.long, c.if-most-length.true))); first = below-four t }

pub returns-then-packet-used : goal.returns-then-packet-used
returns-then-packet-used c =
    let t = typed (goal.at.returns-then-packet-used c).In-Some in
    record {
      fault = (_, t.near, omega (arith, t.long, c.whole_length-used.ensures, c.if-packet-used.true));
      first = below-five t (omega (arith, t.long, c.if-length-eq0.false)) (omega (arith, t.long, c.if-most-length.false));
    }

pub returns : goal.returns
unfolding fields_in
returns c =
    let t = typed (goal.at.returns c).In-Some in
    found t
    (record {
      bits = t.named.bits;
      near = t.near;
      typed = t.typed;
      some = omega (arith, t.long, c.if-length-eq0.false);
      few = omega (arith, t.long, c.if-most-length.false);
      whole = omega (arith, t.long, c.whole_length-used.ensures, c.if-packet-used.false);
    })
    c.word-received.result (came c.args.packet.now _ c.word-received.ensures) _ _ _ _ _ _ _ (ap (λ (f : Header). f.sync) c.from_bits-fields.ensures)
    c.in-Mended.ensures.1 (omega arith) (omega arith) (omega (arith, t.long)) (omega arith) (omega (arith, t.long, c.whole_length-used.ensures))
