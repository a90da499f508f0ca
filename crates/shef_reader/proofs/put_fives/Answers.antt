-- `shef_reader::put_fives` meets its contract. Assumes nothing.
use Rattle.std.proofs.Common.{◌≡◌, ℕ, ◌+◌, ◌-◌, ◌*◌, ◌/◌, ◌%◌, ◌^◌, ◌<◌, set, sym, refl, ap, ◌∙◌, subst, subst₂, arith}
use Rattle.codes.specs.Pack.{low}
use Rattle.codes.specs.Steps.Passed.{LaidSoFar}
use Rattle.codes.proofs.EightBytes.{top-on}
use Rattle.codes.proofs.ReadSoFar.{laying-none}
use Rattle.codes.proofs.TakenCodes.{put_one}
use Rattle.compact.proofs.Room.{CodeRoom, word_room}
use Rattle.shef.specs.Table.{table, scheme}
use Rattle.shef_reader.specs.Steps.Reading.{table_laws}
use Rattle.shef_reader.proofs.Fives.{five-six}
use Rattle.shef_reader.proofs.Six.{any_code, code_of, no-line-end, six-window}
use Rattle.shef_reader.proofs.put_fives.Goals.{In-loop-k}
use Rattle.shef_reader.proofs.put_fives.Goals as goal

pub loop-k-init : goal.loop-k-init
loop-k-init c =
    let bs = low c.args.have c.args.held in
    let all : c.args.have ≡ c.args.have - 5 * 0 = omega arith in
    record {
      top = ap (λ (k : ℕ). c.args.held * 2 ^ (64 - k) % 2 ^ 64) all;
      laid = subst₂ (λ (k m : ℕ). LaidSoFar scheme bs (low k c.args.held) c.args.out.now c.args.out.now c.args.n m) all
          (let none : c.args.n ≡ c.args.n + 0 = omega arith in none) (laying-none scheme bs c.args.out.now c.args.n);
    }

module _ (c : In-loop-k) where
  abbrev six : ℕ
  six = c.loop-k.top / 2 ^ 58

  small : six < 32
  small = five-six c.args.held c.args.have c.requires.0 c.requires.1 c.requires.4 c.loop-k.k (omega arith) c.loop-k.top c.loop-k.invariant.top

  room : CodeRoom table (low c.args.have c.args.held) c.args.out.now c.loop-k.out c.args.n (c.args.n + c.loop-k.k) c.args.held (c.args.have - 5 * c.loop-k.k)
      (code_of six 5 1)
  room =
      let left : ℕ = c.args.have - 5 * c.loop-k.k in
      let v = six-window c.args.held left c.loop-k.top (omega arith) (omega arith) c.loop-k.invariant.top in
      word_room c.args.held c.args.have table_laws c.requires.2 c.requires.3 c.loop-k.invariant.laid v.1
      (any_code v.0 v.2 (omega (arith, small)) (let w : 5 ≡ 5 + six / 32 = omega (arith, small) in w) (sym (no-line-end six (λ x. omega (arith, small, x)))))
      (omega arith)

pub bounds-top : goal.bounds-top
bounds-top c = let few = small (goal.at.bounds-top c).In-loop-k in omega (arith, few)

pub bounds-out-n : goal.bounds-out-n
bounds-out-n c = let r = room (goal.at.bounds-out-n c).In-loop-k in omega (arith, r.room, r.same)

pub loop-k-preserved : goal.loop-k-preserved
loop-k-preserved c =
    let a = (goal.at.loop-k-preserved c).In-loop-k in
    let r = room a in
    let left : ℕ = c.args.have - 5 * c.loop-k.k in
    let on : left - 5 ≡ c.args.have - 5 * (c.loop-k.k + 1) = omega arith in
    record {
      top = top-on c.args.held left c.loop-k.top 5 (omega arith) (omega arith) c.loop-k.invariant.top
          ∙ ap (λ (k : ℕ). c.args.held * 2 ^ (64 - k) % 2 ^ 64) on;
      laid = subst₂ (λ k m. LaidSoFar scheme (low c.args.have c.args.held) (low k c.args.held) c.args.out.now
          (set c.loop-k.out (c.args.n + c.loop-k.k) (code_of (six a) 5 1).first) c.args.n m) on (omega arith)
          (subst (λ out. LaidSoFar scheme (low c.args.have c.args.held) (low (left - 5) c.args.held) c.args.out.now out c.args.n (c.args.n + c.loop-k.k + 1))
          (sym (put_one c.loop-k.out (c.args.n + c.loop-k.k) (code_of (six a) 5 1) refl (omega (arith, r.room, r.same)))) r.step);
    }
