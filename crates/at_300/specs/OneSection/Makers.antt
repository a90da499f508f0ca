-- What any maker could have built under our rules.
-- Assumes nothing.
use Rattle.std.specs.Prelude.{Bool, List, ◌≡◌, ℕ, ◌≤◌, length}
use Rattle.header.specs.declared.Format.{Format}
use Rattle.formats.specs.Data.{Carries, AllCoded, comes_back}
use Rattle.packet.specs.Packet.{header_for}
use Rattle.terms.specs.declared.Terms.{Terms}
use Rattle.at_300.specs.OneSection.Packet.{packet_of}

-- a packet that a maker could have built: of a text that has codes, in a format, with a sync bit. Its data is what a maker may build of what the text
-- comes back as, runs and line ends cut as that maker liked, one byte or more and no more than may be; before it the header of its length, behind it its
-- checksum
pub record Made (terms : Terms) (format : Format) (sync : Bool) (text packet : List ℕ) : Type 0 where
  pub carried : List ℕ
  pub coded : AllCoded format text
  pub carries : Carries format (comes_back format text) carried
  pub some : 1 ≤ length carried
  pub few : length carried ≤ terms.most
  pub is : packet ≡ packet_of (header_for format sync (length carried)) carried
