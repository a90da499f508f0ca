-- `bit_buffer::last_bits` meets its contract. Assumes nothing.
use Rattle.std.proofs.Common.{rules, ◌≡◌, ◌+◌, ◌*◌, ◌^◌, ◌<◌, get_or, refl, ◌∙◌, subst, arith}
use Rattle.codes.specs.Pack.{low}
use Rattle.codes.proofs.PassedWords.{byte_more, last-small, last-fits-word, last-told}
use Rattle.bit_buffer.proofs.last_bits.Goals as goal

pub overflow_mul-held : goal.overflow_mul-held
overflow_mul-held c =
    let byte : get_or c.args.rest.now c.loop-byte.byte-index 0 < 256 = search rules in
    omega (arith, last-fits-word c.loop-byte.held _ _ (omega arith) c.loop-byte.invariant.small byte)

pub loop-byte-init : goal.loop-byte-init
unfolding low
loop-byte-init c = record { same = refl; small = omega arith }

pub loop-byte-preserved : goal.loop-byte-preserved
loop-byte-preserved c =
    let byte : get_or c.args.rest.now c.loop-byte.byte-index 0 < 256 = search rules in
    let i = c.loop-byte.byte-index in
    record {
      same = byte_more _ c.loop-byte.held i (omega arith) byte ∙ c.loop-byte.invariant.same;
      small = subst (λ k. c.loop-byte.held * 256 + get_or c.args.rest.now i 0 < 2 ^ k) (let e : i * 8 + 8 ≡ (i + 1) * 8 = omega arith in e)
          (last-small c.loop-byte.held _ _ c.loop-byte.invariant.small byte);
    }

pub returns : goal.returns
returns c =
    let i = c.loop-byte.invariant in
    last-told c.args.rest.now c.loop-byte.held c.args.skip _ _ c.loop-byte.byte-index (omega arith) i.small i.same (omega (arith, c.requires.1)) (omega arith)
