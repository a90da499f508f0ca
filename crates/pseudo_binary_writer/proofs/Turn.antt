-- A turn of the writer's loop: the row of bits that comes next of what is still to come.
-- Assumes nothing.
use mathlib.Core.Path.{subst}
use mathlib.Core.List.{List, ◌++◌}
use Prim.Native.Nat.{ℕ, ◌+◌, ◌/◌, ◌≤◌}
use lib.ListN.{length, take, drop}
use Rattle.codes.specs.Chain.{codes}
use Rattle.codes.specs.Pack.{Binary, written}
use Rattle.codes.specs.Steps.Sending.{SendsBits, PutSoFar}
use Rattle.codes.specs.declared.Held.{Held}
use Rattle.codes.proofs.PutSoFar.{put-room, put-sent}
use Rattle.pseudo_binary.specs.Table.{AllCoded, values}
use Rattle.pseudo_binary.specs.Writer.{Alike, ours_after, ours}
use Rattle.pseudo_binary.proofs.Writer.{writer-laws}
use Rattle.pseudo_binary_writer.proofs.Sends.{Proceeds}

-- our codes where m values are announced, from place i of the text on
abbrev pub codes_from : List ℕ → ℕ → ℕ → List ℕ
codes_from t m i = codes (ours_after m (drop i t))

-- they are put so far that those from place i on are still to come, and of these this row comes next
module _ (t d out : List ℕ) (b : Held) (i m : ℕ) (asks : AllCoded t × (length (written (ours t)) ≤ length d))
    (so_far : PutSoFar (ours t) d out b (codes_from t m i)) (row : List ℕ) (j k : ℕ) (f : Proceeds t i m row j k) where
  binary : Binary (codes (ours t))
  binary = writer-laws.ours-binary t asks.0

  to-come : PutSoFar (ours t) d out b (row ++ codes_from t k j)
  to-come = subst (PutSoFar (ours t) d out b) f.next so_far

  pub turn-room : b.n + (b.have + length row) / 8 ≤ length out
  turn-room = put-room (ours t) d binary asks.1 out b row (codes_from t k j) to-come

  pub turn-again : (exit : List ℕ) (r : Held) → SendsBits out exit b row r
      → (j + k ≤ length t) × Alike values (take k (drop j t)) × PutSoFar (ours t) d exit r (codes_from t k j)
  turn-again exit r s = (f.within, f.alike, put-sent (ours t) d binary asks.1 out b row (codes_from t k j) to-come exit r s)
