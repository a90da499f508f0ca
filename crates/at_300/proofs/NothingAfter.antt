-- What follows 6 bytes more than the header's length is not looked at, under terms of no more than 4,000 data bytes. Where the header's length is more than
-- that, sections would need more bytes; but the answer is refusal 4 or an earlier one, which look at the first four bytes alone.
-- Assumes nothing.
use mathlib.Core.List.{List, ◌++◌}
use mathlib.Core.Logic.{inr}
use mathlib.Core.Path.{◌≡◌, sym, subst}
use Prim.Native.Nat.{ℕ, ◌+◌, ◌≤◌}
use native.Mathlib.Decide.{dec_le}
use native.Mathlib.Omega.{arith}
use lib.ListN.{length, length-append}
use Rattle.std.specs.Prelude.{Ok, Err}
use Rattle.header.specs.Valid.{length_in}
use Rattle.distance.specs.Distance.{ValidWithin}
use Rattle.packet.specs.Packet.{whole_length, received}
use Rattle.packet.proofs.Sent.{received-behind}
use Rattle.refusals.specs.declared.ExamineRefusal.{ExamineRefusal}
use Rattle.refusals.specs.declared.ExamineRefusal.TheVariants.{TooManyBits, Short, NoHeader, OtherType, OtherLength, CutOff, Checksum, Malformed}
use Rattle.refusals.specs.declared.ReadRefusal.TheVariants.{Packet, NoRoom}
use Rattle.refusals.specs.Match.{turn_in, reader_turn}
use Rattle.refusals.specs.Refusals.{number_in, examine_told}
use Rattle.refusals.proofs.Known.{before-room}
use Rattle.terms.specs.declared.Terms.{Terms}
use Rattle.terms.specs.Terms.{OnePacket}
use Rattle.examine.specs.Examine.{ExamineAnswer, Fault, Refuses, Examines}
use Rattle.reader.specs.Reader.{ReadAnswer, Reads}
use Rattle.examine.proofs.ExamineOnce.{accepts-no-fault, examines-one}
use Rattle.reader.proofs.ReadOnce.{refused-packet, packet-refused, reads-one}
use Rattle.demands.proofs.OneAnswer.{nothing-after}
use Rattle.at_300.specs.OneSection.OneAnswer.{NothingAfter}
use Rattle.at_300.proofs.Reading.{examines-same, reads_same}

-- ---- what the first four bytes decide

-- the conditions up to that of 4 are the same for two slices that start with the same four bytes
early : (terms : Terms) (p q : List ℕ) → received p ≡ received q → 4 ≤ length p → (r : ExamineRefusal)
    → reader_turn (number_in (examine_told r)) ≤ reader_turn 4 → Fault terms p r → Fault terms q r
unfolding turn_in
early terms p q same four TooManyBits le f = f
early terms p q same four Short le f = absurd (let no' : ⊥ = omega arith in no')
early terms p q same four NoHeader le f = λ header near. f header (subst (λ (w : ℕ). ValidWithin terms.mend w header) (sym same) near)
early terms p q same four OtherType le (header, near, other) = (header, subst (λ (w : ℕ). ValidWithin terms.mend w header) same near, other)
early terms p q same four OtherLength le (header, near, other) = (header, subst (λ (w : ℕ). ValidWithin terms.mend w header) same near, other)
early terms p q same four CutOff le f = absurd (let no' : ⊥ = omega arith in no')
early terms p q same four (Checksum k) le f = absurd (let no' : ⊥ = omega arith in no')
early terms p q same four (Malformed i codes) le f = absurd (let no' : ⊥ = omega arith in no')

-- and where that of 4 holds, so is what is answered
module _ (terms : Terms) (bytes : OnePacket terms.most) (p q : List ℕ) (same : received p ≡ received q) (four : 4 ≤ length p) (four' : 4 ≤ length q)
    (other_length : Fault terms p OtherLength) where
  not-later : (r : ExamineRefusal) → Refuses terms p r → reader_turn (number_in (examine_told r)) ≤ reader_turn 4
  not-later r f = pick (dec_le (reader_turn (number_in (examine_told r))) (reader_turn 4))
    where
      pick : Dec (reader_turn (number_in (examine_told r)) ≤ reader_turn 4) → reader_turn (number_in (examine_told r)) ≤ reader_turn 4
      pick (yes le) = le
      pick (no later) = absurd (f.first OtherLength (omega arith) other_length)

  refused-alike : (r : ExamineRefusal) → Refuses terms p r → Refuses terms q r
  refused-alike r f =
      record {
        fault = early terms p q same four r (not-later r f) f.fault;
        first = λ other lt g. f.first other lt (early terms q p (sym same) four' other (omega (arith, not-later r f)) g);
      }

  examined-alike : (answer : ExamineAnswer) → Examines terms p answer → Examines terms q answer
  examined-alike (Ok reading) (text, a) =
      absurd (accepts-no-fault terms (record { bits = a.allowed.framed.bits; bytes = bytes }) p reading text a OtherLength other_length)
  examined-alike (Err r) f = refused-alike r f

  read_alike : (entry : List ℕ) (answer : ReadAnswer) (exit : List ℕ) → Reads terms p entry answer exit → Reads terms q entry answer exit
  read_alike entry (Ok reading) exit (text, a, held, there) =
      absurd (accepts-no-fault terms (record { bits = a.allowed.framed.bits; bytes = bytes }) p reading text a OtherLength other_length)
  read_alike entry (Err (Packet r)) exit (f, there) =
      (refused-packet terms q (length entry) r (refused-alike r (packet-refused terms p (length entry) r f)), there)
  read_alike entry (Err (NoRoom needed)) exit (f, there) = absurd (f.first (Packet OtherLength) (before-room OtherLength) other_length)

-- ---- what follows

received-alone : (packet after : List ℕ) → 4 ≤ length packet → received packet ≡ received (packet ++ after)
received-alone packet after four = sym (received-behind packet after four)

module _ (terms : Terms) (small : terms.most ≤ 4000) where
  bytes : OnePacket terms.most
  bytes = omega arith

  module _ (packet after : List ℕ) (header : ℕ) (near : ValidWithin terms.mend (received packet) header) (whole : length_in header + 6 ≤ length packet) where
    longer : 4 ≤ length (packet ++ after)
    longer = omega (arith, length-append packet after)

    too_long : (whole_length (length_in header) ≤ length packet → ⊥) → Fault terms packet OtherLength
    too_long more = (header, near, inr (omega arith))

    examined-alone : (a b : ExamineAnswer) → Examines terms packet a → Examines terms (packet ++ after) b → a ≡ b
    examined-alone a b p q = pick (dec_le (whole_length (length_in header)) (length packet))
      where
        pick : Dec (whole_length (length_in header) ≤ length packet) → a ≡ b
        pick (yes all) = (nothing-after terms bytes).examined-alone packet after header near all a b p q
        pick (no more) =
            examines-one terms bytes (packet ++ after) a b
            (examined-alike terms bytes packet (packet ++ after) (received-alone packet after (omega arith)) (omega arith) longer (too_long more) a p) q

    read-alone : (entry x y : List ℕ) (a b : ReadAnswer) → Reads terms packet entry a x → Reads terms (packet ++ after) entry b y → (a ≡ b) × (x ≡ y)
    read-alone entry x y a b p q = pick (dec_le (whole_length (length_in header)) (length packet))
      where
        pick : Dec (whole_length (length_in header) ≤ length packet) → (a ≡ b) × (x ≡ y)
        pick (yes all) = (nothing-after terms bytes).read-alone packet after header near all entry x y a b p q
        pick (no more) =
            reads-one terms bytes (packet ++ after) entry a b x y
            (read_alike terms bytes packet (packet ++ after) (received-alone packet after (omega arith)) (omega arith) longer (too_long more) entry a x p) q

  pub nothing-after-same : NothingAfter terms
  nothing-after-same = record {
    examined-alone = λ packet after header near whole a b p q.
        examined-alone packet after header near whole a b ((examines-same terms small packet a).1 p) ((examines-same terms small (packet ++ after) b).1 q);
    read-alone = λ packet after header near whole entry x y a b p q.
        read-alone packet after header near whole entry x y a b ((reads_same terms small packet entry a x).1 p)
        ((reads_same terms small (packet ++ after) entry b y).1 q);
  }
