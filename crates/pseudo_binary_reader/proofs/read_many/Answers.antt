-- `pseudo_binary_reader::read_many` meets its contract. The loop's invariant: the next eight values are in the eight bytes from `first` on, and if the
-- first eight stood in a buffer before the loop, those up to `place` stand in it. Assumes nothing.
use mathlib.Core.Path.{◌≡◌, sym, ap, ◌∙◌}
use mathlib.Core.List.{List}
use Prim.Native.Nat.{ℕ, ◌+◌, ◌-◌, ◌*◌, ◌≤◌}
use native.Mathlib.Omega.{arith}
use lib.ListN.{length, drop}
use Rattle.bits.specs.Row.{bits}
use Rattle.codes.specs.Steps.Laid.{laid}
use Rattle.pseudo_binary_reader.specs.Steps.Taken.{characters_in}
use Rattle.pseudo_binary_reader.proofs.Taking.{taken-length, taken_more, taken-over, eight-after}
use Rattle.pseudo_binary_reader.proofs.read_many.Goals.{After-loop-place, In-loop-place}
use Rattle.pseudo_binary_reader.proofs.read_many.Goals as goal

-- what stands in each buffer in which the first eight did before the loop stands in the one that the function was given
standing : (bs entry first out : List ℕ) (n k : ℕ) → n + 8 ≤ length entry → first ≡ laid entry n (characters_in 8 bs)
    → ((other : List ℕ) → length other ≡ length first → first ≡ laid other n (characters_in 8 bs) → out ≡ laid other n (characters_in k bs))
    → out ≡ laid entry n (characters_in k bs)
standing bs entry first out n k room e all = all entry (sym (taken-length bs entry first n 8 e room)) e

stands : (a : In-loop-place)
    → a.loop-place.out ≡ laid a.args.out.now a.args.n (characters_in (a.loop-place.place - a.args.n) (drop a.args.at (bits a.args.s.now)))
stands a =
    standing _ a.args.out.now a.put_eight.new.out a.loop-place.out a.args.n (a.loop-place.place - a.args.n) (omega (arith, a.requires.lt_count))
    (a.put_eight.ensures (drop a.args.at (bits a.args.s.now)) a.requires.s_len_bound.3) a.loop-place.invariant.4

stands-2 : (a : After-loop-place)
    → a.loop-place.out ≡ laid a.args.out.now a.args.n (characters_in (a.loop-place.place - a.args.n) (drop a.args.at (bits a.args.s.now)))
stands-2 a =
    standing _ a.args.out.now a.put_eight.new.out a.loop-place.out a.args.n (a.loop-place.place - a.args.n) (omega (arith, a.requires.lt_count))
    (a.put_eight.ensures (drop a.args.at (bits a.args.s.now)) a.requires.s_len_bound.3) a.loop-place.invariant.4

-- it keeps its length
same : (a : In-loop-place) → length a.loop-place.out ≡ length a.args.out.now
same a = taken-length _ a.args.out.now a.loop-place.out a.args.n _ (stands a) (omega (arith, a.requires.lt_count, a.loop-place.invariant.0, a.loop-place.invariant.1))

same-2 : (a : After-loop-place) → length a.loop-place.out ≡ length a.args.out.now
same-2 a = taken-length _ a.args.out.now a.loop-place.out a.args.n _ (stands-2 a) (omega (arith, a.requires.lt_count, a.loop-place.invariant.0, a.loop-place.invariant.1))

pub loop-place-preserved : goal.loop-place-preserved
loop-place-preserved c =
    let row = bits c.args.s.now in
    let at = c.args.at in
    let n = c.args.n in
    let place = c.loop-place.place in
    let done = place - n in
    let kept =
    taken-length (drop at row) c.args.out.now c.put_eight.new.out n 8 (c.put_eight.ensures (drop at row) c.requires.s_len_bound.3) (omega (arith, c.requires.lt_count)) in (
      omega (arith, c.loop-place.invariant.0),
      omega (arith, c.loop-place-test.true, c.requires.lt_count.0),
      omega (arith, c.loop-place.invariant.0, c.loop-place.invariant.2),
      c.loop-place.invariant.3,
      λ entry l h.
          taken_more (drop at row) entry c.loop-place.out n done (c.loop-place.invariant.4 entry l h)
          (omega (arith, l, kept, c.requires.lt_count, c.loop-place.invariant.0, c.loop-place.invariant.1)) c.put_eight-in-loop-place.new.out 8 place (omega (arith, c.loop-place.invariant.0))
          (c.put_eight-in-loop-place.ensures (drop (6 * done) (drop at row))
          (eight-after row at done c.eight_characters-next.result (c.eight_characters-next.ensures (at + 6 * done) c.loop-place.invariant.2)))
          ∙ ap (λ (k : ℕ). laid entry n (characters_in k (drop at row))) (let y : done + 8 ≡ place + 8 - n = omega (arith, c.loop-place.invariant.0) in y),
    )

pub returns : goal.returns
returns c =
    let a' = (goal.at.returns c).After-loop-place in
    let row = bits a'.args.s.now in
    let at = a'.args.at in
    let n = a'.args.n in
    let count = a'.args.count in
    let last = count - 8 in
    taken-over (drop at row) a'.args.out.now c.loop-place.out c.put_eight-2.new.out n (c.loop-place.place - n) last (stands-2 a')
    (omega (arith, a'.requires.lt_count, c.loop-place.invariant.0, c.loop-place.invariant.1)) (omega (arith, c.loop-place-test.false))
    (omega (arith, c.loop-place.invariant.1, a'.requires.lt_count.0))
    (c.put_eight-2.ensures (drop (6 * last) (drop at row))
    (eight-after row at last c.eight_characters-ending.result
    (c.eight_characters-ending.ensures (at + 6 * last) (omega (arith, a'.requires.s_len_bound.1, a'.requires.lt_count.0)))))
    ∙ ap (λ (k : ℕ). laid a'.args.out.now n (characters_in k (drop at row))) (let y : last + 8 ≡ count = omega (arith, a'.requires.lt_count.0) in y)
