-- At 300 bps every statement is the one that stood before, whatever number of header bits is named.
-- Assumes nothing.
use Prim.Native.Nat.{ℕ, ◌≤◌}
use native.Mathlib.Omega.{arith}
use lib.ListN.{length}
use Rattle.refusals.specs.declared.ExamineRefusal.TheVariants.{Checksum}
use Rattle.refusals.specs.declared.ReadRefusal.TheVariants.{Packet}
use Rattle.at_300.specs.At300.{now, At300}
use Rattle.at_300.proofs.Damaged.{all-that-came, made-same, damaged-same}
use Rattle.at_300.proofs.NothingAfter.{nothing-after-same}
use Rattle.at_300.proofs.Reading.{refuses-same, read-refuses-same, allowed_same, accepts-same, examines-same, reads_same}
use Rattle.at_300.proofs.Writing.{writes-same}

pub at-300 : (mend : ℕ) → At300 mend
at-300 mend =
    let terms = now mend in
    let small : terms.most ≤ 4000 = omega arith in
    record {
      examines = examines-same terms small;
      reads = reads_same terms small;
      writes = writes-same terms small;
      allowed = allowed_same terms small;
      accepts = accepts-same terms small;
      made = made-same terms small;
      examined-six = λ packet section p. ((refuses-same terms small packet (Checksum section)).0 p).fault.0;
      read-six = λ packet entry exit section p. ((read-refuses-same terms small packet (length entry) (Packet (Checksum section))).0 p.0).fault.0;
      whole_length_lem = λ n some few. omega arith;
      all-that-came = λ carried came some few. all-that-came carried some few came;
      damaged = λ bits. damaged-same terms small (record { bits = bits; bytes = omega arith });
      nothing-after = nothing-after-same terms small;
    }
