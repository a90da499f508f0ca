-- `repair::repair` meets its contract.
-- Assumes nothing.
use mathlib.Core.Path.{ap₂, subst⁻¹}
use Prim.Native.Nat.{ℕ, ◌+◌}
use native.Mathlib.Omega.{arith}
use Rattle.repair.specs.Steps.Repair.{Accounts}
use Rattle.repair.specs.Table.{nothing}
use Rattle.repair.proofs.Told.{bits_named, none_told, BitsTold, bits-told, no_bits}
use Rattle.repair.proofs.repair.Goals.{Else-entry-eq-NOTHING}
use Rattle.repair.proofs.repair.Goals as goal

pub returns-then-difference-eq0 : goal.returns-then-difference-eq0
returns-then-difference-eq0 c = subst⁻¹ (λ (n : ℕ). Accounts n 0) c.if-difference-eq0.true no_bits

pub returns-then-entry-eq-NOTHING : goal.returns-then-entry-eq-NOTHING
unfolding nothing
returns-then-entry-eq-NOTHING c = none_told c.args.difference c.requires c.entry_of-entry.result c.entry_of-entry.ensures (omega (arith, c.if-entry-eq-NOTHING.true))

-- the bits that the entry names
told : (c : Else-entry-eq-NOTHING) → BitsTold c.args.difference c.requires c.entry_of-entry.result c.entry_of-entry.ensures
unfolding nothing
told c = bits-told c.args.difference c.requires c.entry_of-entry.result c.entry_of-entry.ensures (λ e. omega (arith, c.if-entry-eq-NOTHING.false, e))

pub bit_at-requires : goal.bit_at-requires
bit_at-requires c = (told c).higher

pub bit_at-requires-2 : goal.bit_at-requires-2
bit_at-requires-2 c = (told (goal.at.bit_at-requires-2 c).Else-entry-eq-NOTHING).lower

pub returns : goal.returns
unfolding bits_named
returns c = (told (goal.at.returns c).Else-entry-eq-NOTHING).account (c.bit_at.result + c.bit_at-2.result) (ap₂ (λ (x y : ℕ). x + y) c.bit_at.ensures c.bit_at-2.ensures)
