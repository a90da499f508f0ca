-- `pseudo_binary_reader::read_last` meets its contract. The loop's invariant: the characters of `done` values are laid.
-- Assumes nothing.
use mathlib.Core.Path.{◌≡◌, sym, ap, ◌∙◌}
use mathlib.Core.List.{List}
use Prim.Native.Nat.{ℕ, ◌+◌, ◌*◌, ◌%◌, ◌<◌}
use native.Mathlib.Omega.{arith}
use lib.ListN.{length, take, drop}
use lib.Seq.{drop-drop}
use Rattle.bits.specs.Row.{bits}
use Rattle.codes.specs.Pack.{value}
use Rattle.pseudo_binary.specs.Table.{character_of}
use Rattle.pseudo_binary.proofs.Characters.{character_of-turned}
use Rattle.pseudo_binary_reader.proofs.Taking.{taken_none, taken-length, taken-one}
use Rattle.pseudo_binary_reader.proofs.read_last.Goals.{After-loop-done, In-loop-done}
use Rattle.pseudo_binary_reader.proofs.read_last.Goals as goal

pub loop-done-init : goal.loop-done-init
loop-done-init c =
    (omega arith, taken_none (drop c.args.at (bits c.args.s.now)) c.args.out.now c.args.n)

-- the buffer keeps its length
same : (a : In-loop-done) → length a.loop-done.out ≡ length a.args.out.now
same a =
    taken-length (drop a.args.at (bits a.args.s.now)) a.args.out.now a.loop-done.out a.args.n a.loop-done.done a.loop-done.invariant.1
    (omega (arith, a.requires))

same-2 : (a : After-loop-done) → length a.loop-done.out ≡ length a.args.out.now
same-2 a =
    taken-length (drop a.args.at (bits a.args.s.now)) a.args.out.now a.loop-done.out a.args.n a.loop-done.done a.loop-done.invariant.1
    (omega (arith, a.requires))

-- the character of a value that is known by its bits
character : (v w x : ℕ) → v < 64 → v ≡ w → x ≡ 63 + (v + 1) % 64 → x ≡ character_of w
character v w x h e is = is ∙ sym (character_of-turned v h) ∙ ap character_of e

pub loop-done-preserved : goal.loop-done-preserved
loop-done-preserved c =
    let bs = bits c.args.s.now in
    let done = c.loop-done.done in (
      omega arith,
      taken-one (drop c.args.at bs) c.args.out.now c.loop-done.out c.args.n done c.loop-done.invariant.1 (omega (arith, c.requires))
          _ (omega (arith, c.requires, c.loop-done-test.true))
          (character c.value_at.result _ _ c.value_at.ensures.1
          (c.value_at.ensures.0 ∙ ap (λ (l : List ℕ). value (take 6 l)) (sym (drop-drop (6 * done) c.args.at bs))) (omega arith)),
    )
