-- A refusal as functions tell it and pass it up.
-- Assumes nothing.
use Rattle.codes.specs.declared.Unfit.{Unfit}
use Rattle.codes.specs.declared.Unfit.TheVariants as unfit
use Rattle.codes.specs.declared.Unread.{Unread}
use Rattle.codes.specs.declared.Unread.TheVariants as unread
use Rattle.refusals.specs.Refusals.{Told, number_in, value_in, codes_told}
use Rattle.refusals.specs.declared.ExamineRefusal.{ExamineRefusal}
use Rattle.refusals.specs.declared.ExamineRefusal.TheVariants.{OtherLength, Malformed}
use Rattle.refusals.specs.declared.Told.{Told as Said}
use Rattle.refusals.specs.declared.WriteRefusal.{WriteRefusal}
use Rattle.refusals.specs.declared.WriteRefusal.TheVariants.{NoCode, TooLong}

-- its numbers, as a struct
abbrev pub as_told : Told → Said
as_told told = record { number = number_in told; value = value_in told; codes = codes_told told }

-- why data has no text, as a refusal of its packet: a packet's data is never so long that it is not looked at
abbrev pub unread_as : Unread → ExamineRefusal
unread_as (unread.Malformed at) = Malformed at.bit at.codes
unread_as unread.TooLong = OtherLength

-- why a text has no data, as a refusal of the text
abbrev pub unfit_as : Unfit → WriteRefusal
unfit_as (unfit.NoCode index) = NoCode index
unfit_as unfit.TooMany = TooLong
