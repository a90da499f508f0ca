-- What the count of an answer says.
-- Assumes nothing.
use mathlib.Core.Bool.{Bool}
use mathlib.Core.List.{List}
use mathlib.Core.Path.{◌≡◌, refl, sym, ap, ap₂, ◌∙◌, subst, subst₂}
use Prim.Native.Nat.{ℕ, ◌≤◌, ◌<◌}
use native.Mathlib.Decide.{dec_le, dec_lt}
use native.Mathlib.Omega.{arith}
use lib.ListN.{length}
use Rattle.header.specs.declared.Format.{Format}
use Rattle.header.specs.declared.Format.TheVariants.{Open}
use Rattle.header.specs.Fields.{fields_in}
use Rattle.header.specs.Formats.{HasFormat}
use Rattle.header.specs.Valid.{length_in}
use Rattle.header.proofs.Formats.{one_format}
use Rattle.distance.specs.Distance.{ValidWithin}
use Rattle.formats.specs.Ceiling.{ceiling}
use Rattle.formats.specs.Data.{Carries, Unreadable, codes_in, codes_before, UnreadableAfter, comes_back}
use Rattle.formats.proofs.Codes.{codes-one, before-one, codes-few, before-few, reached}
use Rattle.formats.proofs.Formats.{carries-coded, carries_kept}
use Rattle.refusals.specs.declared.ExamineRefusal.TheVariants.{TooManyBits, Short, NoHeader, OtherType, OtherLength, CutOff, Checksum, Malformed}
use Rattle.refusals.specs.declared.ReadRefusal.{ReadRefusal}
use Rattle.refusals.specs.declared.ReadRefusal.TheVariants.{Packet, NoRoom}
use Rattle.refusals.specs.Match.{turn_in}
use Rattle.refusals.specs.Refusals.{number_in, codes_told, read_told}
use Rattle.terms.specs.declared.Terms.{Terms}
use Rattle.terms.specs.Terms.{OnePacket, MayBeNamed}
use Rattle.examine.specs.declared.Reading.{Reading}
use Rattle.examine.specs.Examine.{Refuses, Accepts}
use Rattle.examine.proofs.Headers.{under}
use Rattle.packet.specs.Packet.{whole_length, received, data_in, packet_of, header_for}
use Rattle.demands.specs.HowManyCodes.{HowManyCodes}
use Rattle.demands.specs.Makers.{Made}
use Rattle.demands.proofs.Parts.{data-size}

module _ (terms : Terms) (packet : List ℕ) (reading : Reading) (text : List ℕ) (a : Accepts terms packet reading text) where
  codes-are : reading.codes ≡ codes_in a.format text (data_in a.header packet) a.allowed.carries
  codes-are = ap (λ (r : Reading). r.codes) a.is

  any-building : (other : List ℕ) (built : Carries a.format other (data_in a.header packet))
      → reading.codes ≡ codes_in a.format other (data_in a.header packet) built
  any-building other built = codes-are ∙ codes-one a.format text other (data_in a.header packet) a.allowed.carries built

  -- the ceiling, of what the reading says
  here : ceiling a.format (length (data_in a.header packet)) ≡ ceiling reading.format reading.data_length
  here =
      ap₂ ceiling (ap (λ (r : Reading). r.format) (sym a.is))
      (data-size packet a.header a.allowed.framed.whole ∙ ap (λ (r : Reading). r.data_length) (sym a.is))

  within-ceiling : reading.codes ≤ ceiling reading.format reading.data_length
  within-ceiling = subst₂ ◌≤◌ (sym codes-are) here (codes-few a.format text (data_in a.header packet) a.allowed.carries)

  open_none : reading.format ≡ Open → reading.codes ≡ 0
  unfolding ceiling
  open_none e =
      let none : reading.codes ≤ 0 = subst (λ (k : Format). reading.codes ≤ ceiling k reading.data_length) e within-ceiling in
      omega arith

-- ---- refusal 7

module _ (terms : Terms) (bytes : OnePacket terms.most) (packet : List ℕ) (bit codes : ℕ) (refuses : Refuses terms packet (Malformed bit codes)) (header : ℕ)
    (near : ValidWithin terms.mend (received packet) header) (format : Format) (typed : HasFormat (fields_in header) format) where
  -- it is not given where more bits are named than may be
  named : MayBeNamed terms
  unfolding turn_in
  named = pick (dec_le terms.mend 2)
    where
      pick : Dec (terms.mend ≤ 2) → MayBeNamed terms
      pick (yes bits) = record { bits = bits; bytes = bytes }
      pick (no many) = absurd (refuses.first TooManyBits (omega arith) many)

  stuck-here : UnreadableAfter format (data_in header packet) bit codes
  stuck-here =
      let u = under terms named packet (λ (h : ℕ). (k : Format) × HasFormat (fields_in h) k × UnreadableAfter k (data_in h packet) bit codes) header near refuses.fault in
      subst (λ (k : Format). UnreadableAfter k (data_in header packet) bit codes) (one_format u.1 typed) u.2

  any-before : (place : ℕ) (stuck : Unreadable format (data_in header packet) place) → codes ≡ codes_before format (data_in header packet) place stuck
  any-before place stuck = sym stuck-here.1 ∙ before-one format bit place (data_in header packet) stuck-here.0 stuck

  -- nor where bytes are missing
  whole : whole_length (length_in header) ≤ length packet
  unfolding turn_in
  whole = pick (dec_lt (length packet) (whole_length (length_in header)))
    where
      pick : Dec (length packet < whole_length (length_in header)) → whole_length (length_in header) ≤ length packet
      pick (yes short) = absurd (refuses.first CutOff (omega arith) (header, near, short))
      pick (no enough) = omega arith

  before-within : codes ≤ ceiling format (length_in header)
  before-within =
      subst₂ ◌≤◌ stuck-here.1 (ap (ceiling format) (data-size packet header whole)) (before-few format (data_in header packet) bit stuck-here.0)

-- ---- the others

others-none : (refusal : ReadRefusal) → (number_in (read_told refusal) ≡ 7 → ⊥) → codes_told (read_told refusal) ≡ 0
others-none (Packet TooManyBits) other = refl
others-none (Packet Short) other = refl
others-none (Packet NoHeader) other = refl
others-none (Packet OtherType) other = refl
others-none (Packet OtherLength) other = refl
others-none (Packet CutOff) other = refl
others-none (Packet (Checksum section)) other = refl
others-none (Packet (Malformed bit codes)) other = absurd (other refl)
others-none (NoRoom needed) other = refl

-- ---- packets that reach the ceiling

ceiling-reached : (terms : Terms) (format : Format) (sync : Bool) (n : ℕ) → 1 ≤ n → n ≤ terms.most
    → (text packet : List ℕ) × (made : Made terms format sync text packet) × (length made.carried ≡ n)
    × (codes_in format (comes_back format text) made.carried made.carries ≡ ceiling format n)
ceiling-reached terms format sync n some few =
    let r = reached format n in
    let text = r.0 in
    let carried = r.1 in
    let kept = carries_kept format text carried r.3.0 in
    let back : Carries format (comes_back format text) carried = subst (λ (t : List ℕ). Carries format t carried) (sym kept) r.3.0 in (
      text,
      packet_of (header_for format sync (length carried)) carried,
      record {
        carried = carried;
        coded = carries-coded format text carried r.3.0;
        carries = back;
        some = omega (arith, r.2);
        few = omega (arith, r.2);
        is = refl;
      },
      r.2,
      codes-one format (comes_back format text) text carried back r.3.0 ∙ r.3.1,
    )

pub how-many-codes : (terms : Terms) → OnePacket terms.most → HowManyCodes terms
how-many-codes terms bytes =
    record {
      any-building = any-building terms;
      open_none = open_none terms;
      any-before = any-before terms bytes;
      others-none = others-none;
      within-ceiling = within-ceiling terms;
      before-within = before-within terms bytes;
      ceiling-reached = ceiling-reached terms;
    }
