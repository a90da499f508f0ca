-- `pseudo_binary_reader::pair` meets its contract. Assumes nothing.
use mathlib.Core.Path.{◌≡◌, ap, ◌∙◌}
use Prim.Native.Nat.{◌+◌, ◌*◌}
use native.Mathlib.Omega.{arith}
use lib.ListN.{get_or}
use Rattle.codes.specs.Steps.BitBuffer.{ahead}
use Rattle.pseudo_binary_reader.proofs.Starts.{ahead-two}
use Rattle.pseudo_binary_reader.proofs.pair.Goals as goal

pub returns : goal.returns
returns c =
    let s = c.args.s.now in
    let at = c.args.at in
    let same : c.from_be_bytes.result ≡ get_or s at 0 * 256 + get_or s (at + 1) 0 = omega (arith, c.from_be_bytes.ensures) in (
      ap (λ held. ahead s held 16 (at + 2)) same ∙ ahead-two s at c.requires (λ i. omega (arith, c.type_inv.s i)),
      omega (arith, same, c.type_inv.s at, c.type_inv.s (at + 1)),
    )
