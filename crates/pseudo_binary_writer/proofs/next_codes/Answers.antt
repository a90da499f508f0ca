-- `pseudo_binary_writer::next_codes` meets its contract. Assumes nothing.
use mathlib.Core.Path.{◌≡◌, sym, subst, subst⁻¹}
use Prim.Native.Nat.{ℕ, ◌-◌}
use native.Mathlib.Omega.{arith}
use lib.ListN.{drop}
use Rattle.pseudo_binary_writer.specs.Steps.Sending.{NextOf}
use Rattle.pseudo_binary_writer.proofs.Announced.{value-next, two-next, four-next, first_next}
use Rattle.pseudo_binary_writer.proofs.next_codes.Goals as goal

pub returns-then-announced-ge4 : goal.returns-then-announced-ge4
returns-then-announced-ge4 c =
    let t = c.args.text.now in
    let i = c.args.i in
    let m = c.args.announced in
    subst (λ (b : ℕ). NextOf m (drop i t) (record { bits = b; width = 24; values = m - 4; count = 4 })) (sym c.four_values.ensures)
    (four-next t i m c.requires.announced_in_bounds.0 c.requires.announced_in_bounds.1 c.if-announced-ge4.true)

pub returns-then-announced-ge2 : goal.returns-then-announced-ge2
returns-then-announced-ge2 c =
    let t = c.args.text.now in
    let i = c.args.i in
    let m = c.args.announced in
    subst (λ (b : ℕ). NextOf m (drop i t) (record { bits = b; width = 12; values = m - 2; count = 2 })) (sym c.two_values.ensures)
    (two-next t i m c.requires.announced_in_bounds.0 c.requires.announced_in_bounds.1 c.if-announced-ge2.true)

pub returns-then-announced-gt0 : goal.returns-then-announced-gt0
returns-then-announced-gt0 c =
    value-next c.args.text.now c.args.i c.args.announced c.requires.announced_in_bounds.0 c.requires.announced_in_bounds.1 (omega arith) c.if-announced-gt0.true

pub returns : goal.returns
returns c =
    let u = drop c.args.i c.args.text.now in
    let none : c.args.announced ≡ 0 = omega arith in
    subst⁻¹ (λ (m : ℕ). NextOf m u c.next_indicator.result) none (first_next u c.next_indicator.result c.next_indicator.ensures)
