-- `register::half_step` meets its contract.
-- Assumes nothing.
use mathlib.Core.Path.{ap, ◌∙◌}
use mathlib.Core.List.{List}
use Prim.Native.Nat.{ℕ, ◌*◌, ◌/◌, ◌%◌, ◌^◌, ◌<◌}
use native.Mathlib.Omega.{arith}
use borrow.Author.Rules.{rules}
use lib.Bits.{bit_xor, xor_lt}
use lib.ListN.{get_or}
use Rattle.register.proofs.Halves.{half-by-table}
use Rattle.register.proofs.Table.{halves-right}
use Rattle.register.proofs.half_step.Goals as goal

leaving-lt : (r half : ℕ) → r < 2 ^ 16 → half < 16 → bit_xor (r / 2 ^ 12) half < 16
leaving-lt r half hr hh = xor_lt 4 (r / 2 ^ 12) half (omega arith) hh

pub bounds-leaving : goal.bounds-leaving
bounds-leaving c = leaving-lt c.args.register c.args.half (search rules) c.requires

pub returns : goal.returns
returns c =
    let a = c.args in
    ap (λ (t : List ℕ). bit_xor (a.register * 2 ^ 4 % 2 ^ 16) (get_or t (bit_xor (a.register / 2 ^ 12) a.half) 0)) halves-right
    ∙ half-by-table a.register a.half (search rules) c.requires
