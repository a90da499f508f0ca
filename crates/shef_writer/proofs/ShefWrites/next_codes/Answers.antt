-- `shef_writer::ShefWrites::next_codes` meets its contract. Assumes nothing.
use Prim.Native.Nat.{ℕ}
use native.Mathlib.Omega.{arith}
use lib.Dec.{lit≤}
use Rattle.codes.specs.Chain.{codes}
use Rattle.codes.proofs.EachAfter.{each_next}
use Rattle.codes.proofs.FirstOfText.{one-wider, first-own}
use Rattle.shef.specs.Writer.{own}
use Rattle.shef_writer.specs.Steps.Sending.{codes_from}
use Rattle.shef_writer.proofs.Sending.{code-joinable, four-entries}
use Rattle.shef_writer.proofs.ShefWrites.next_codes.Goals as goal

pub four_joined-requires : goal.four_joined-requires
four_joined-requires c = (
  code-joinable _ c.code_of.result c.code_of.ensures,
  code-joinable _ c.code_of-then-first-second-ge64.result c.code_of-then-first-second-ge64.ensures,
  code-joinable _ c.code_of-then-first-second-ge64-2.result c.code_of-then-first-second-ge64-2.ensures,
  code-joinable _ c.code_of-then-first-second-ge64-3.result c.code_of-then-first-second-ge64-3.ensures,
)

pub returns-then-first-second-ge64 : goal.returns-then-first-second-ge64
returns-then-first-second-ge64 c =
    four-entries c.args.text.now c.args.i c.requires.0 (λ k. omega (arith, c.type_inv.text k)) c.entry-first.result
    c.entry-second.result c.entry-third.result c.entry-fourth.result c.code_of.result c.code_of-then-first-second-ge64.result c.code_of-then-first-second-ge64-2.result
    c.code_of-then-first-second-ge64-3.result c.four_joined.result (omega arith) c.entry-first.ensures c.entry-second.ensures c.entry-third.ensures
    c.entry-fourth.ensures c.if-first-second-ge64.true c.code_of.ensures c.code_of-then-first-second-ge64.ensures c.code_of-then-first-second-ge64-2.ensures c.code_of-then-first-second-ge64-3.ensures
    c.four_joined.ensures

pub returns : goal.returns
returns c =
    let t = c.args.text.now in
    first-own t (λ (x y : ℕ). codes (own x y)) (codes_from t) (each_next own t) 32 c.args.i c.before_at.result c.own_code.result c.requires.1
    c.before_at.ensures (one-wider (lit≤ tt) c.own_code.ensures)
