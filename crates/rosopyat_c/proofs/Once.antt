-- The promise for C leaves one reply and one content of lent memory.
-- Assumes nothing.
use mathlib.Core.Bool.{Bool}
use mathlib.Core.List.{List}
use mathlib.Core.Path.{◌≡◌, sym, ap, ◌∙◌}
use Prim.Native.Nat.{ℕ}
use Rattle.terms.specs.Terms.{naming}
use Rattle.terms.proofs.Usual.{most-few}
use Rattle.judge.proofs.JudgeOnce.{judges-one}
use Rattle.reader.proofs.ReadOnce.{reads-one}
use Rattle.rosopyat_c.specs.Replies.{read_reply, judge_reply, RepliesToRead, RepliesToJudge}
use Rattle.rosopyat_c.specs.declared.JudgeReply.{JudgeReply}
use Rattle.rosopyat_c.specs.declared.ReadReply.{ReadReply}

pub read-once : (mend : ℕ) (rate-1200 : Bool) (packet entry : List ℕ) (a b : ReadReply) (x y : List ℕ) → RepliesToRead (naming mend rate-1200) packet entry a x
    → RepliesToRead (naming mend rate-1200) packet entry b y → (a ≡ b) × (x ≡ y)
read-once mend rate-1200 packet entry a b x y p q =
    let same = reads-one (naming mend rate-1200) (most-few rate-1200) packet entry p.answer q.answer x y p.reads q.reads in
    (p.is ∙ ap read_reply same.0 ∙ sym q.is, same.1)

pub judge-once : (mend : ℕ) (rate-1200 : Bool) (packet : List ℕ) (a b : JudgeReply) → RepliesToJudge (naming mend rate-1200) packet a
    → RepliesToJudge (naming mend rate-1200) packet b → a ≡ b
judge-once mend rate-1200 packet a b p q =
    p.is ∙ ap judge_reply (judges-one (naming mend rate-1200) packet (most-few rate-1200) p.answer q.answer p.judges q.judges) ∙ sym q.is
