-- What any maker could have built under our rules, and what becomes of it on the way.
-- Assumes nothing.
use Rattle.std.specs.Prelude.{Bool, List, ◌++◌, ◌≡◌, ℕ, ◌+◌, ◌^◌, ◌≤◌, ◌<◌, length, drop}
use Rattle.header.specs.declared.Format.{Format}
use Rattle.header.specs.Fields.{bytes_of}
use Rattle.distance.specs.Distance.{distance}
use Rattle.formats.specs.Data.{Carries, AllCoded, comes_back}
use Rattle.examine.specs.declared.Reading.{Reading}
use Rattle.terms.specs.declared.Terms.{Terms}
use Rattle.packet.specs.Packet.{whole_length, received, packet_of, header_for}

-- a packet that a maker could have built: of a text that has codes, in a format, with a sync bit. Its data is what a maker may build of what the text
-- comes back as, runs and line ends cut as that maker liked, one byte or more and no more than may be, in sections with a checksum behind each; before
-- it the header of its length
pub record Made (terms : Terms) (format : Format) (sync : Bool) (text packet : List ℕ) : Type 0 where
  pub carried : List ℕ
  pub coded : AllCoded format text
  pub carries : Carries format (comes_back format text) carried
  pub some : 1 ≤ length carried
  pub few : length carried ≤ terms.most
  pub is : packet ≡ packet_of (header_for format sync (length carried)) carried

-- 32 bits that differ from the packet's header in no more than the named number
pub record Flipped (terms : Terms) (packet : List ℕ) (word : ℕ) : Type 0 where
  pub bits : word < 2 ^ 32
  pub few : distance word (received packet) ≤ terms.mend

-- 32 bits that differ from it in more, but so that these and the number that is named are four at most
pub record FlippedBeyond (terms : Terms) (packet : List ℕ) (word : ℕ) : Type 0 where
  pub bits : word < 2 ^ 32
  pub more : terms.mend < distance word (received packet)
  pub few : terms.mend + distance word (received packet) ≤ 4

-- the packet with those for its header, and whatever follows it
unfoldable pub arriving : ℕ → List ℕ → List ℕ → List ℕ
arriving word packet after = bytes_of word ++ (drop 4 packet ++ after)

-- the reading of a packet of so many codes, data bytes and characters, with so many header bits mended, and these
abbrev pub reading_with : Format → Bool → (mended mask codes carried text : ℕ) → Reading
reading_with format sync mended mask codes carried text =
    record {
      format = format;
      sync = sync;
      mended = mended;
      mask = mask;
      codes = codes;
      data_length = carried;
      text_length = text;
      used = whole_length carried;
    }
