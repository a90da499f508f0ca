-- `bit_sender::flush` meets its contract. The loop's invariant: the bytes so far are laid, and `left` bits and the fill are pending.
-- Assumes nothing.
use mathlib.Core.Path.{◌≡◌, ap, subst₂, ◌∙◌}
use mathlib.Core.List.{List, []}
use Prim.Native.Nat.{ℕ, ◌+◌, ◌-◌, ◌/◌, ◌%◌, ◌^◌, ◌≤◌, ◌<◌}
use native.Mathlib.Omega.{arith}
use lib.Dec.{lit≤}
use lib.ListN.{length, replicate, set}
use Rattle.codes.specs.Pack.{gap}
use Rattle.codes.specs.Steps.Pending.{Pending}
use Rattle.codes.proofs.PendingBytes.{pending-length, pending-room, pending-byte, pending_done}
use Rattle.codes.proofs.LastBytes.{last-bytes, last-length, last-pending, gap-none, gap-some, pending-last}
use Rattle.bit_sender.proofs.flush.Invariants.{last}
use Rattle.bit_sender.proofs.flush.Goals.{After-loop-left, After-window, In-loop-left}
use Rattle.bit_sender.proofs.flush.Goals as goal

pub loop-left-init : goal.loop-left-init
loop-left-init c = (omega arith, omega arith, last-pending c.args.held c.args.have c.args.out.now c.args.at)

room : (a : In-loop-left)
    → a.args.at + length (last a.args.held a.args.have)
    ≤ length a.args.out.now
room a = omega (arith, last-length a.args.held a.args.have, a.requires)

room-2 : (a : After-loop-left)
    → a.args.at + length (last a.args.held a.args.have)
    ≤ length a.args.out.now
room-2 a = omega (arith, last-length a.args.held a.args.have, a.requires)

same : (a : In-loop-left) → length a.loop-left.out ≡ length a.args.out.now
same a =
    pending-length (last a.args.held a.args.have) a.args.out.now a.args.at (last-bytes a.args.held a.args.have) (room a)
    a.loop-left.out a.loop-left.n a.args.held a.loop-left.left (replicate (gap a.args.have) 1) a.loop-left.invariant.2

same-2 : (a : After-loop-left) → length a.loop-left.out ≡ length a.args.out.now
same-2 a =
    pending-length (last a.args.held a.args.have) a.args.out.now a.args.at (last-bytes a.args.held a.args.have) (room-2 a)
    a.loop-left.out a.loop-left.n a.args.held a.loop-left.left (replicate (gap a.args.have) 1) a.loop-left.invariant.2

-- in the loop eight bits are there, and after it no eight
eight : (c : In-loop-left) → 8 ≤ c.loop-left.left
eight c = omega (arith, c.loop-left-test.true)

fewer : (c : After-loop-left) → c.loop-left.left < 8
fewer c = omega (arith, c.loop-left-test.false, c.loop-left.invariant.0, c.requires.0)

byte-room : (c : In-loop-left) → c.loop-left.n < length c.args.out.now
byte-room c =
    pending-room (last c.args.held c.args.have) c.args.out.now c.args.at (last-bytes c.args.held c.args.have) (room c)
    c.loop-left.out c.loop-left.n c.args.held c.loop-left.left (replicate (gap c.args.have) 1) (eight c) c.loop-left.invariant.2

pub loop-left-preserved : goal.loop-left-preserved
loop-left-preserved c = (
  omega arith,
  omega (arith, c.loop-left.invariant.1, eight c),
  pending-byte (last c.args.held c.args.have) c.args.out.now c.args.at (last-bytes c.args.held c.args.have) (room c)
      c.loop-left.out c.loop-left.n c.args.held c.loop-left.left (replicate (gap c.args.have) 1) (eight c) c.loop-left.invariant.2,
)

pub returns-then-left-eq0 : goal.returns-then-left-eq0
returns-then-left-eq0 c =
    let a' = (goal.at.returns-then-left-eq0 c).After-loop-left in
    let p = c.loop-left.invariant.2 in
    let d =
    pending_done (last a'.args.held a'.args.have) a'.args.out.now a'.args.at (last-bytes a'.args.held a'.args.have) (room-2 a')
    c.loop-left.out c.loop-left.n a'.args.held
    (subst₂ (λ (k : ℕ) (l : List ℕ). Pending (last a'.args.held a'.args.have) a'.args.out.now c.loop-left.out a'.args.at c.loop-left.n
    a'.args.held k l) (let none : c.loop-left.left ≡ 0 = omega (arith, c.if-left-eq0.true, fewer (goal.at.returns-then-left-eq0 c).After-loop-left) in none)
    (ap (λ (k : ℕ). replicate k 1) (gap-none a'.args.have (c.loop-left.n - a'.args.at) (omega (arith, c.loop-left.invariant.1, p.place, c.if-left-eq0.true)))) p) in
    record { place = d.1; whole = d.0 }

fewer-at-3 : (c : After-window) → c.loop-left.left < 8
fewer-at-3 c = omega (arith, c.loop-left-test.false, c.loop-left.invariant.0, c.requires.0)

-- the last byte
final : (c : After-window)
    → Pending (last c.args.held c.args.have)
    c.args.out.now c.loop-left.out
    c.args.at c.loop-left.n (c.window.result / 2) 8 []
final c =
    let p = c.loop-left.invariant.2 in
    pending-last (last c.args.held c.args.have) c.args.out.now c.loop-left.out c.args.at c.loop-left.n c.args.held c.loop-left.left
    c.window.result (gap c.args.have) (fewer-at-3 c)
    (gap-some c.args.have (c.loop-left.n - c.args.at) c.loop-left.left (omega (arith, c.loop-left.invariant.1, p.place)) (omega (arith, c.if-left-eq0.false))
    (fewer-at-3 c)) c.window.ensures p

room-at-4 : (a : After-window)
    → a.args.at + length (last a.args.held a.args.have)
    ≤ length a.args.out.now
room-at-4 a = omega (arith, last-length a.args.held a.args.have, a.requires)

final-room : (c : After-window) → c.loop-left.n < length c.args.out.now
final-room c =
    pending-room (last c.args.held c.args.have) c.args.out.now c.args.at (last-bytes c.args.held c.args.have) (room-at-4 c)
    c.loop-left.out c.loop-left.n (c.window.result / 2) 8 [] (lit≤ tt) (final c)

pub returns : goal.returns
returns c =
    let a' = (goal.at.returns c).After-loop-left in
    let w = last a'.args.held a'.args.have in
    let d =
    pending_done w a'.args.out.now a'.args.at (last-bytes a'.args.held a'.args.have) (room-2 a')
    (set c.loop-left.out c.loop-left.n (c.window.result / 2 / 2 ^ (8 - 8) % 256)) (c.loop-left.n + 1) (c.window.result / 2)
    (pending-byte w a'.args.out.now a'.args.at (last-bytes a'.args.held a'.args.have) (room-2 a') c.loop-left.out c.loop-left.n
    (c.window.result / 2) 8 [] (lit≤ tt) (final c)) in
    record { place = d.1; whole = ap (set c.loop-left.out c.loop-left.n) (omega (arith, c.window.ensures.small)) ∙ d.0 }
