-- The answers of reading and judging as plain structs: `refusal` is its number (RULES, Refusals), 0 where the call is accepted; `number` and `codes` come with it; and
-- every member that a refusal does not name is 0.
-- Assumes nothing.
use Rattle.std.specs.Prelude.{List, ◌≡◌, ℕ, Ok, Err, Option, Some, None}
use Rattle.header.specs.Fields.{one_if}
use Rattle.header.specs.Formats.{format_number}
use Rattle.judge.specs.Judge.{JudgeAnswer, Judges}
use Rattle.refusals.specs.Refusals.{number_in, value_in, codes_told, examine_told, read_told}
use Rattle.reader.specs.Reader.{ReadAnswer, Reads}
use Rattle.terms.specs.declared.Terms.{Terms}
use Rattle.rosopyat_c.specs.declared.JudgeReply.{JudgeReply}
use Rattle.rosopyat_c.specs.declared.ReadReply.{ReadReply}

abbrev pub read_reply : ReadAnswer → ReadReply
read_reply (Ok reading) =
    record {
      refusal = 0;
      number = 0;
      format = format_number reading.format;
      sync = one_if reading.sync;
      mended = reading.mended;
      mask = reading.mask;
      codes = reading.codes;
      data_length = reading.data_length;
      text_length = reading.text_length;
      used = reading.used;
    }
read_reply (Err refusal) =
    record {
      refusal = number_in (read_told refusal);
      number = value_in (read_told refusal);
      format = 0;
      sync = 0;
      mended = 0;
      mask = 0;
      codes = codes_told (read_told refusal);
      data_length = 0;
      text_length = 0;
      used = 0;
    }

-- the reply is that of an answer that the entry point may give, under the terms of the call
pub record RepliesToRead (terms : Terms) (packet entry : List ℕ) (reply : ReadReply) (exit : List ℕ) : Type 0 where
  pub answer : ReadAnswer
  pub reads : Reads terms packet entry answer exit
  pub is : reply ≡ read_reply answer

-- as ours: 1 or 0; and the bit at which the data departs from ours, 0 where it does not
abbrev pub as_ours : Option ℕ → ℕ
as_ours None = 1
as_ours (Some bit) = 0

abbrev pub departs_at : Option ℕ → ℕ
departs_at None = 0
departs_at (Some bit) = bit

abbrev pub judge_reply : JudgeAnswer → JudgeReply
judge_reply (Ok judgement) =
    record {
      refusal = 0;
      number = 0;
      codes = 0;
      as_ours = as_ours judgement.departs_at;
      departs_at = departs_at judgement.departs_at;
      more = judgement.more;
    }
judge_reply (Err refusal) =
    record {
      refusal = number_in (examine_told refusal);
      number = value_in (examine_told refusal);
      codes = codes_told (examine_told refusal);
      as_ours = 0;
      departs_at = 0;
      more = 0;
    }

pub record RepliesToJudge (terms : Terms) (packet : List ℕ) (reply : JudgeReply) : Type 0 where
  pub answer : JudgeAnswer
  pub judges : Judges terms packet answer
  pub is : reply ≡ judge_reply answer
