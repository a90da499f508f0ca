-- `sections::join` meets its contract.
-- Assumes nothing.
use mathlib.Core.List.{◌++◌}
use mathlib.Core.Path.{◌≡◌, refl, ap, ap₂, ◌∙◌}
use Prim.Native.Nat.{ℕ, ◌*◌, min}
use native.Mathlib.Omega.{arith}
use lib.ListN.{drop}
use borrow.Author.Rules.{rules}
use Rattle.sections.specs.Sections.{section_count, in_turn, section_in, joined}
use Rattle.sections.proofs.Lent.{join-next}
use Rattle.sections.proofs.join.Goals as goal

pub loop-k-init : goal.loop-k-init
unfolding in_turn
loop-k-init c = record {
  long = refl;
  put = ap (λ (m : ℕ). drop m c.args.out.now) (let none : 0 ≡ min c.args.n 0 = omega arith in none);
}

pub loop-k-preserved : goal.loop-k-preserved
loop-k-preserved c = record {
  long = search rules;
  put =
      join-next c.args.n c.args.came.now c.requires.1 c.loop-k.k c.size.result (omega arith) c.size.ensures c.args.out.now c.loop-k.out c.copy.new.out
      (omega arith) c.loop-k.invariant.put c.copy.ensures.after;
}

pub returns : goal.returns
unfolding joined
returns c =
    c.loop-k.invariant.put
    ∙ ap₂ (λ (k m : ℕ). in_turn (section_in c.args.n c.args.came.now) k ++ drop m c.args.out.now)
    (let all : c.loop-k.k ≡ section_count c.args.n = omega arith in all) (let whole : min c.args.n (c.loop-k.k * 4000) ≡ c.args.n = omega arith in whole)
