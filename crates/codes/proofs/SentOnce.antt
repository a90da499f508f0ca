-- What joining codes and sending bits leaves: one answer.
-- Assumes nothing.
use mathlib.Core.Path.{◌≡◌, sym, ap, ◌∙◌}
use mathlib.Core.Logic.{◌⊎◌, ⊎_elim}
use mathlib.Core.List.{List}
use Prim.Native.Nat.{ℕ, ◌+◌, ◌*◌, ◌/◌, ◌^◌, ◌≤◌, ◌<◌}
use native.Mathlib.Nat.{mod-eq_of_lt}
use native.Mathlib.Omega.{arith}
use Rattle.codes.specs.Pack.{value}
use Rattle.codes.specs.Steps.EightBytes.{spilled}
use Rattle.codes.specs.Steps.Sending.{FourJoined, Sends}
use Rattle.codes.specs.declared.Held.{Held}
use Rattle.codes.specs.declared.Sent.{Sent}
use Rattle.codes.proofs.BitBuffer.{push-one}
use Rattle.codes.proofs.LowBits.{value_low}

pub joined-one : {a b c d r q : Sent} → FourJoined a b c d r → FourJoined a b c d q → r ≡ q
joined-one {a} {b} {c} {d} {r} {q} h k =
    let width : r.width ≡ q.width = h.width ∙ sym k.width in
    let count : r.count ≡ q.count = h.count ∙ sym k.count in
    let bits : r.bits ≡ q.bits =
    sym (value_low r.width r.bits ∙ mod-eq_of_lt h.fits) ∙ ap value (h.same ∙ sym k.same)
    ∙ (value_low q.width q.bits ∙ mod-eq_of_lt k.fits) in
    λ i. record { bits = bits i; width = width i; count = count i }

pub sent-one : {entry x y : List ℕ} {b r q : Held} {width number : ℕ} → width ≤ 64 → r.held < 2 ^ 64 → q.held < 2 ^ 64
    → Sends entry x b width number r → Sends entry y b width number q → (r ≡ q) × (x ≡ y)
sent-one {entry} {x} {y} {b} {r} {q} {width} {number} w f g h k =
    let held : r.held ≡ q.held = push-one b.held number width r.held q.held w f g h.held k.held in
    let have : r.have ≡ q.have = h.have ∙ sym k.have in
    let place : r.n ≡ q.n = h.place ∙ sym k.place in (
      (λ i. record { n = place i; held = held i; have = have i }),
      h.whole ∙ ap (λ (v : ℕ). spilled ((b.have + width) / 32 * 4) entry b.n v (b.have + width)) held ∙ sym k.whole,
    )

pub block_one : {length end r q : ℕ} → r ≤ length → r ≤ end → (r ≡ length) ⊎ (r ≡ end) → q ≤ length → q ≤ end → (q ≡ length) ⊎ (q ≡ end) → r ≡ q
block_one a b c d e f =
    ⊎_elim (λ x. ⊎_elim (λ y. omega arith) (λ y. omega arith) f) (λ x. ⊎_elim (λ y. omega arith) (λ y. omega arith) f) c
