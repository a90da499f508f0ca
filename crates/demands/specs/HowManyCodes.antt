-- How many codes a packet costs (RULES, Refusals): what the count of an answer says, whatever number of bits was named, read into a buffer or examined.
-- Assumes nothing.
use Rattle.std.specs.Prelude.{Bool, List, ◌≡◌, ℕ, ◌≤◌, length}
use Rattle.header.specs.declared.Format.{Format}
use Rattle.header.specs.declared.Format.TheVariants.{Open}
use Rattle.header.specs.Fields.{fields_in}
use Rattle.header.specs.Formats.{HasFormat}
use Rattle.header.specs.Valid.{length_in}
use Rattle.distance.specs.Distance.{ValidWithin}
use Rattle.formats.specs.Ceiling.{ceiling}
use Rattle.formats.specs.Data.{Carries, Unreadable, codes_in, codes_before, comes_back}
use Rattle.refusals.specs.declared.ExamineRefusal.TheVariants.{Malformed}
use Rattle.refusals.specs.declared.ReadRefusal.{ReadRefusal}
use Rattle.refusals.specs.Refusals.{number_in, codes_told, read_told}
use Rattle.terms.specs.declared.Terms.{Terms}
use Rattle.examine.specs.declared.Reading.{Reading}
use Rattle.examine.specs.Examine.{Refuses, Accepts}
use Rattle.packet.specs.Packet.{received, data_in}
use Rattle.demands.specs.Makers.{Made}

pub record HowManyCodes (terms : Terms) : Type 0 where
  -- of an accepted packet it is how many indicators, values and codes any building of its data has: there is one count;
  pub any-building : (packet : List ℕ) (reading : Reading) (text : List ℕ) (accepts : Accepts terms packet reading text)
      → (other : List ℕ) (built : Carries accepts.format other (data_in accepts.header packet))
      → reading.codes ≡ codes_in accepts.format other (data_in accepts.header packet) built
  -- in Open none;
  pub open_none : (packet : List ℕ) (reading : Reading) (text : List ℕ) → Accepts terms packet reading text → reading.format ≡ Open → reading.codes ≡ 0
  -- in refusal 7 it is how many stand before the bad place, whichever they are;
  pub any-before : (packet : List ℕ) (bit codes : ℕ) → Refuses terms packet (Malformed bit codes) → (header : ℕ)
      → ValidWithin terms.mend (received packet) header → (format : Format) → HasFormat (fields_in header) format
      → (place : ℕ) (stuck : Unreadable format (data_in header packet) place) → codes ≡ codes_before format (data_in header packet) place stuck
  -- and in every other refusal 0.
  pub others-none : (refusal : ReadRefusal) → (number_in (read_told refusal) ≡ 7 → ⊥) → codes_told (read_told refusal) ≡ 0
  -- It is never above the ceiling of the data's length, nor is that of refusal 7;
  pub within-ceiling : (packet : List ℕ) (reading : Reading) (text : List ℕ) → Accepts terms packet reading text
      → reading.codes ≤ ceiling reading.format reading.data_length
  pub before-within : (packet : List ℕ) (bit codes : ℕ) → Refuses terms packet (Malformed bit codes) → (header : ℕ)
      → ValidWithin terms.mend (received packet) header → (format : Format) → HasFormat (fields_in header) format → codes ≤ ceiling format (length_in header)
  -- and for every format and every length that may be, some maker's packet reaches it.
  pub ceiling-reached : (format : Format) (sync : Bool) (n : ℕ) → 1 ≤ n → n ≤ terms.most
      → (text packet : List ℕ) × (made : Made terms format sync text packet) × (length made.carried ≡ n)
      × (codes_in format (comes_back format text) made.carried made.carries ≡ ceiling format n)
