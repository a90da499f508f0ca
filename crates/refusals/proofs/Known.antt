-- Each refusal of the entry points is known by what it is told as; and no two numbers have one turn.
-- Assumes nothing.
use mathlib.Core.Bool.{cond}
use mathlib.Core.Path.{◌≡◌, refl}
use Prim.Native.Nat.{ℕ, ◌<◌}
use native.Mathlib.Omega.{arith}
use lib.Dec.{eqb}
use lib.ListN.{get_or}
use Rattle.refusals.specs.declared.ExamineRefusal.{ExamineRefusal}
use Rattle.refusals.specs.declared.ExamineRefusal.TheVariants.{TooManyBits, Short, NoHeader, OtherType, OtherLength, CutOff, Checksum, Malformed}
use Rattle.refusals.specs.declared.WriteRefusal.{WriteRefusal}
use Rattle.refusals.specs.declared.WriteRefusal.TheVariants.{OtherFormat, Empty, NoCode, TooLong, NoRoom as NoPacketRoom}
use Rattle.refusals.specs.Match.{turn_in, reader_order, reader_turn, writer_order, writer_turn}
use Rattle.refusals.specs.Refusals.{Told, number_in, examine_told, write_told}
use Rattle.refusals.proofs.Refused.{Known, Ordered, at_turn, one_number}

-- ---- of `examine`

unfoldable pub examine_from : Told → ExamineRefusal
examine_from (number, value, codes) =
    cond (eqb number 17) TooManyBits
    (cond (eqb number 1) Short
    (cond (eqb number 2) NoHeader
    (cond (eqb number 3) OtherType
    (cond (eqb number 4) OtherLength (cond (eqb number 5) CutOff (cond (eqb number 6) (Checksum value) (Malformed value codes)))))))

pub examine-back : (r : ExamineRefusal) → examine_from (examine_told r) ≡ r
unfolding examine_from
examine-back TooManyBits = refl
examine-back Short = refl
examine-back NoHeader = refl
examine-back OtherType = refl
examine-back OtherLength = refl
examine-back CutOff = refl
examine-back (Checksum section) = refl
examine-back (Malformed bit codes) = refl

abbrev pub examine_known : Known ExamineRefusal examine_told
examine_known = record { from = examine_from; back = examine-back }

-- its turns
pub examine_ordered : Ordered ExamineRefusal examine_told reader_order
unfolding turn_in
examine_ordered = record { stands = stands }
  where
    stands : (r : ExamineRefusal) → number_in (examine_told r) ≡ get_or reader_order (reader_turn (number_in (examine_told r))) 0
    stands TooManyBits = refl
    stands Short = refl
    stands NoHeader = refl
    stands OtherType = refl
    stands OtherLength = refl
    stands CutOff = refl
    stands (Checksum section) = refl
    stands (Malformed bit codes) = refl

pub examine-at-turn : (r : ExamineRefusal) (turn : ℕ) → reader_turn (number_in (examine_told r)) ≡ turn → number_in (examine_told r) ≡ get_or reader_order turn 0
examine-at-turn = at_turn examine_ordered

pub examine-one-number : (r s : ExamineRefusal) → reader_turn (number_in (examine_told r)) ≡ reader_turn (number_in (examine_told s))
    → number_in (examine_told r) ≡ number_in (examine_told s)
examine-one-number = one_number examine_ordered

-- all are tested before the room
pub before-room : (r : ExamineRefusal) → reader_turn (number_in (examine_told r)) < reader_turn 8
unfolding turn_in
before-room TooManyBits = omega arith
before-room Short = omega arith
before-room NoHeader = omega arith
before-room OtherType = omega arith
before-room OtherLength = omega arith
before-room CutOff = omega arith
before-room (Checksum section) = omega arith
before-room (Malformed bit codes) = omega arith

-- ---- of the writer

unfoldable pub write_from : Told → WriteRefusal
write_from (number, value, codes) =
    cond (eqb number 12) OtherFormat
    (cond (eqb number 10) Empty (cond (eqb number 9) (NoCode value) (cond (eqb number 11) TooLong (NoPacketRoom value))))

pub write-back : (r : WriteRefusal) → write_from (write_told r) ≡ r
unfolding write_from
write-back OtherFormat = refl
write-back Empty = refl
write-back (NoCode index) = refl
write-back TooLong = refl
write-back (NoPacketRoom needed) = refl

abbrev pub write_known : Known WriteRefusal write_told
write_known = record { from = write_from; back = write-back }

-- its turns
pub write_ordered : Ordered WriteRefusal write_told writer_order
unfolding turn_in
write_ordered = record { stands = stands }
  where
    stands : (r : WriteRefusal) → number_in (write_told r) ≡ get_or writer_order (writer_turn (number_in (write_told r))) 0
    stands OtherFormat = refl
    stands Empty = refl
    stands (NoCode index) = refl
    stands TooLong = refl
    stands (NoPacketRoom needed) = refl

pub write-at-turn : (r : WriteRefusal) (turn : ℕ) → writer_turn (number_in (write_told r)) ≡ turn → number_in (write_told r) ≡ get_or writer_order turn 0
write-at-turn = at_turn write_ordered

pub write-one-number : (r s : WriteRefusal) → writer_turn (number_in (write_told r)) ≡ writer_turn (number_in (write_told s))
    → number_in (write_told r) ≡ number_in (write_told s)
write-one-number = one_number write_ordered
