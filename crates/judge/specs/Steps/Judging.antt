-- Data judged, by way of buffers.
-- Assumes nothing.
use Rattle.std.specs.Prelude.{List, ◌≡◌, ℕ, ◌*◌, ◌/◌, ◌≤◌, ◌<◌, length}
use Rattle.header.specs.declared.Format.{Format}
use Rattle.codes.specs.Steps.Measure.{countable}
use Rattle.formats.specs.Data.{Carries}
use Rattle.sections.specs.Sections.{sent_length, joined}
use Rattle.refusals.specs.declared.ExamineRefusal.{ExamineRefusal}
use Rattle.refusals.specs.declared.ReadRefusal.{ReadRefusal}
use Rattle.refusals.specs.declared.ReadRefusal.TheVariants.{Packet, NoRoom}

-- the longest text of n data bytes, in any format: sixteen characters for each six bits
abbrev pub longest_of : ℕ → ℕ
longest_of n = 16 * (8 * n / 6)

-- data that carries a text, with room for as much data
pub record MayBeJudged (format : Format) (theirs text : List ℕ) (ours : ℕ) : Type 0 where
  pub few : length theirs < countable
  pub carries : Carries format text theirs
  pub room : length theirs ≤ ours

-- so many data bytes at most, which came in sections and carry the text
pub record Fits (most : ℕ) (format : Format) (n : ℕ) (came text : List ℕ) : Type 0 where
  pub few : n ≤ most
  pub whole : sent_length n ≤ length came
  pub carries : Carries format text (joined n came)

-- the reader's refusal of a packet is the answer; that there is no room for a text is none that the caller can meet
abbrev pub RefusesAs : ReadRefusal → ExamineRefusal → Type 0
RefusesAs (Packet refusal) answer = answer ≡ refusal
RefusesAs (NoRoom needed) answer = Unit {0}
