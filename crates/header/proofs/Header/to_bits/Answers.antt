-- `header::Header::to_bits` meets its contract.
-- Assumes nothing.
use mathlib.Core.Path.{◌≡◌, ap, ◌∙◌}
use Prim.Native.Nat.{ℕ, ◌+◌, ◌*◌, ◌^◌, ◌<◌}
use native.Mathlib.Omega.{arith}
use Rattle.header.specs.declared.Header.{Header}
use Rattle.header.specs.Check.{check_of}
use Rattle.header.specs.Flag.{parity_for}
use Rattle.header.specs.Fields.{low_flag, header_of}
use Rattle.header.proofs.Division.{check-lt}
use Rattle.header.proofs.Made.{low-flag-lt, parity-lt}
use Rattle.header.proofs.Header.to_bits.Goals.{After-parity_for}
use Rattle.header.proofs.Header.to_bits.Goals as goal

built : (f : Header) (low parity check word : ℕ) → low ≡ low_flag f → parity ≡ parity_for low → check ≡ check_of (low * 2 ^ 14 + f.length)
    → word ≡ (parity * 2 ^ 7 + low) * 2 ^ 24 + f.length * 2 ^ 10 + check → word ≡ header_of f
unfolding header_of
built f low parity check word e ep ec put =
    put
    ∙ ap (λ (n : ℕ). (n * 2 ^ 7 + low) * 2 ^ 24 + f.length * 2 ^ 10 + check) ep
    ∙ ap (λ (n : ℕ). (parity_for low * 2 ^ 7 + low) * 2 ^ 24 + f.length * 2 ^ 10 + n) ec
    ∙ ap (λ (n : ℕ). (parity_for n * 2 ^ 7 + n) * 2 ^ 24 + f.length * 2 ^ 10 + check_of (n * 2 ^ 14 + f.length)) e

pub parity_for-requires : goal.parity_for-requires
parity_for-requires c = omega (arith, low-flag-lt c.args.self c.requires)

-- the seven bits and the one above them
low-lt : (c : After-parity_for) → c.low_flag-low.result < 2 ^ 7
low-lt c = omega (arith, low-flag-lt c.args.self c.requires)

top_lt : (c : After-parity_for) → c.parity_for.result < 2
top_lt c = omega (arith, parity-lt c.low_flag-low.result)

pub overflow_mul-flag : goal.overflow_mul-flag
overflow_mul-flag c = omega (arith, top_lt c)

pub overflow_add-flag : goal.overflow_add-flag
overflow_add-flag c = omega (arith, low-lt c, top_lt c)

pub overflow_mul-result : goal.overflow_mul-result
overflow_mul-result c = omega (arith, low-lt c, top_lt c)

pub overflow_add-result : goal.overflow_add-result
overflow_add-result c = omega (arith, low-lt c, top_lt c)

pub overflow_mul-low : goal.overflow_mul-low
overflow_mul-low c = omega (arith, low-lt c)

pub overflow_add-low : goal.overflow_add-low
overflow_add-low c = omega (arith, low-lt c)

pub check_bits-requires : goal.check_bits-requires
check_bits-requires c = omega (arith, low-lt c, c.requires.length)

pub overflow_add-result-2 : goal.overflow_add-result-2
overflow_add-result-2 c =
    let f = c.args.self in
    let low = c.low_flag-low.result in
    let lt : low < 2 ^ 7 = low-lt (goal.at.overflow_add-result-2 c).After-parity_for in
    omega (arith, top_lt (goal.at.overflow_add-result-2 c).After-parity_for, check-lt (low * 2 ^ 14 + f.length) (omega (arith, c.requires.length)))

pub returns : goal.returns
returns c =
    built c.args.self c.low_flag-low.result c.parity_for.result c.check_bits.result
    _ c.low_flag-low.ensures c.parity_for.ensures c.check_bits.ensures (omega arith)
