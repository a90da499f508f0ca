-- No shorter packet (RULES, Air time): what our writer sends of a text has the fewest bits before its fill, and so its packet the fewest bytes, of all that
-- any maker may build of the text in that format; what its refusals 11 and 8 say of that; and how much more another maker may take.
-- Assumes nothing.
use Rattle.std.specs.Prelude.{Bool, List, ◌↔◌, ◌≡◌, ℕ, ◌+◌, ◌*◌, ◌/◌, ◌≤◌, ◌<◌, length, replicate, Ok, Err}
use Rattle.header.specs.declared.Format.{Format}
use Rattle.header.specs.declared.Format.TheVariants.{PseudoBinary}
use Rattle.header.specs.Formats.{format_number}
use Rattle.codes.specs.Pack.{written}
use Rattle.pseudo_binary.specs.Makers.{singly}
use Rattle.pseudo_binary.specs.Table.{SLASH, values}
use Rattle.pseudo_binary.specs.Writer.{Alike}
use Rattle.formats.specs.Data.{Carries, bits_before_fill, AllCoded, data_of, comes_back}
use Rattle.formats.specs.Waste.{times_at_most}
use Rattle.refusals.specs.declared.WriteRefusal.TheVariants.{TooLong, NoRoom}
use Rattle.terms.specs.declared.Terms.{Terms}
use Rattle.examine.specs.declared.Reading.{Reading}
use Rattle.examine.specs.Examine.{Accepts}
use Rattle.writer.specs.Writer.{WriteAnswer, our_packet, Writes}
use Rattle.demands.specs.Makers.{Made}

-- a packet of the text needs so many bytes: one of them has just so many, with either sync bit, and none has fewer, under whatever terms it was made
pub record Fewest (terms : Terms) (format : Format) (text : List ℕ) (n : ℕ) : Type 0 where
  pub enough : (sync : Bool) → (packet : List ℕ) × Made terms format sync text packet × (length packet ≡ n)
  pub needed : (other : Terms) (sync : Bool) (packet : List ℕ) → Made other format sync text packet → n ≤ length packet

-- the text fits in no single packet of the format
abbrev pub FitsInNone : Terms → Format → List ℕ → Type 0
FitsInNone terms format text = (sync : Bool) (packet : List ℕ) → Made terms format sync text packet → ⊥

pub record NoShorter (terms : Terms) : Type 0 where
  -- No legal data that carries what a text comes back as has fewer bits before its fill than the writer's;
  pub no-fewer-bits : (format : Format) (text carried : List ℕ) (ours : Carries format (comes_back format text) (data_of format text))
      (theirs : Carries format (comes_back format text) carried)
      → bits_before_fill format (comes_back format text) (data_of format text) ours ≤ bits_before_fill format (comes_back format text) carried theirs
  -- (that is one number, however the data is taken apart; and it tells how many bytes the data has)
  pub one_number : (format : Format) (t u carried : List ℕ) (a : Carries format t carried) (b : Carries format u carried)
      → bits_before_fill format t carried a ≡ bits_before_fill format u carried b
  pub bytes-told : (format : Format) (text carried : List ℕ) (built : Carries format text carried)
      → length carried ≡ (bits_before_fill format text carried built + 7) / 8
  -- no legal packet that carries the text has fewer bytes, whatever its sync bit and under whatever terms it was made;
  pub no-shorter-packet : (other : Terms) (format : Format) (sync theirs : Bool) (text packet : List ℕ) → Made other format theirs text packet
      → length (our_packet format sync text) ≤ length packet
  -- nor has one that a reader accepts with that text in that format, header bits mended or not.
  pub none-read-shorter : (other : Terms) (format : Format) (sync : Bool) (text packet : List ℕ) (reading : Reading)
      → Accepts other packet reading (comes_back format text) → reading.format ≡ format → length (our_packet format sync text) ≤ reading.used
  -- So the bytes that the writer answers are the fewest that any packet of the text needs;
  pub written-is-fewest : (format : Format) (sync : Bool) (text entry exit : List ℕ) (n : ℕ)
      → Writes terms (format_number format) sync text entry (Ok n) exit → Fewest terms format text n
  -- refusal 8 names the fewest that any packet of it needs;
  pub room-is-fewest : (format : Format) (sync : Bool) (text entry exit : List ℕ) (n : ℕ)
      → Writes terms (format_number format) sync text entry (Err (NoRoom n)) exit → Fewest terms format text n
  -- and refusal 11 means that the text, which is not empty and has codes, fits in no single packet of that format: it is given exactly then.
  pub too-long-fits-in-none : (format : Format) (sync : Bool) (text entry exit : List ℕ) (answer : WriteAnswer)
      → Writes terms (format_number format) sync text entry answer exit
      → (answer ≡ Err TooLong) ↔ ((0 < length text) × AllCoded format text × FitsInNone terms format text)

-- a text of Pseudo Binary, each character under an indicator of its own: so many bits before the fill, where our writer's data has so many
pub record Singly (text : List ℕ) (single ours : ℕ) : Type 0 where
  pub carries : Carries PseudoBinary (comes_back PseudoBinary text) (written (singly text))
  pub has : bits_before_fill PseudoBinary (comes_back PseudoBinary text) (written (singly text)) carries ≡ single
  pub ours-carries : Carries PseudoBinary (comes_back PseudoBinary text) (data_of PseudoBinary text)
  pub ours-has : bits_before_fill PseudoBinary (comes_back PseudoBinary text) (data_of PseudoBinary text) ours-carries ≡ ours

pub record Waste : Type 0 where
  -- Of two makers' data of one text none has more than so many times the bits of the other before its fill: sixteen in Pseudo Binary, two in Full ASCII, and
  -- in the other formats just as many;
  pub times-at-most : (format : Format) (text a b : List ℕ) (p : Carries format text a) (q : Carries format text b)
      → bits_before_fill format text a p ≤ times_at_most format * bits_before_fill format text b q
  -- so none has more than so many times the bytes;
  pub bytes-at-most : (format : Format) (text a b : List ℕ) → Carries format text a → Carries format text b → length a ≤ times_at_most format * length b
  -- and some have so many times the bits, of texts as long as one likes.
  pub times-reached : (format : Format) (n : ℕ)
      → (text a b : List ℕ) × (p : Carries format text a) × (q : Carries format text b) × (n ≤ bits_before_fill format text b q)
      × (bits_before_fill format text a p ≡ times_at_most format * bits_before_fill format text b q)
  -- Single slashes have 6 bits each, where ours has 6 for each 16 that are started;
  pub single-slashes : (n : ℕ) → Singly (replicate n SLASH) (6 * n) (6 * ((n + 15) / 16))
  -- single values 14 each, where ours has 6 each and 8 for each 128 that are started: of 128 or a multiple, six and a sixteenth each.
  pub single-values : (text : List ℕ) → Alike values text → Singly text (14 * length text) (6 * length text + 8 * ((length text + 127) / 128))
