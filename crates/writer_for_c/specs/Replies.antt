-- The answer of the writer as a plain struct: `refusal` is its number (RULES, Refusals), 0 where the call is accepted; `number` comes with it; and the length
-- is 0 in a refusal.
-- Assumes nothing.
use Rattle.std.specs.Prelude.{Bool, List, ◌≡◌, ℕ, Ok, Err}
use Rattle.refusals.specs.Refusals.{number_in, value_in, write_told}
use Rattle.terms.specs.Terms.{usual}
use Rattle.writer.specs.Writer.{WriteAnswer, Writes}
use Rattle.writer_for_c.specs.declared.WriteReply.{WriteReply}

abbrev pub write_reply : WriteAnswer → WriteReply
write_reply (Ok length) = record { refusal = 0; number = 0; length = length }
write_reply (Err refusal) = record { refusal = number_in (write_told refusal); number = value_in (write_told refusal); length = 0 }

-- the reply is that of an answer that the entry point may give
pub record RepliesToWrite (rate-1200 : Bool) (number : ℕ) (sync : Bool) (text entry : List ℕ) (reply : WriteReply) (exit : List ℕ) : Type 0 where
  pub answer : WriteAnswer
  pub writes : Writes (usual rate-1200) number sync text entry answer exit
  pub is : reply ≡ write_reply answer
