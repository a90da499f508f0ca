-- The promise for C leaves one reply and one content of lent memory.
-- Assumes nothing.
use mathlib.Core.Bool.{Bool}
use mathlib.Core.List.{List}
use mathlib.Core.Path.{◌≡◌, sym, ap, ◌∙◌}
use Prim.Native.Nat.{ℕ}
use Rattle.terms.specs.Terms.{usual}
use Rattle.writer.proofs.WriteOnce.{writes_one}
use Rattle.writer_for_c.specs.Replies.{write_reply, RepliesToWrite}
use Rattle.writer_for_c.specs.declared.WriteReply.{WriteReply}

pub write-once : (rate-1200 : Bool) (number : ℕ) (sync : Bool) (text entry : List ℕ) (a b : WriteReply) (x y : List ℕ)
    → RepliesToWrite rate-1200 number sync text entry a x → RepliesToWrite rate-1200 number sync text entry b y → (a ≡ b) × (x ≡ y)
write-once rate-1200 number sync text entry a b x y p q =
    let same = writes_one (usual rate-1200) number sync text entry p.answer q.answer x y p.writes q.writes in
    (p.is ∙ ap write_reply same.0 ∙ sym q.is, same.1)
