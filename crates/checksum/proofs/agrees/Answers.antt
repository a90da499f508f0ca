-- `checksum::agrees` meets its contract: once the low bytes are equal the high bytes decide, and before that the low bytes do.
-- Assumes nothing.
use mathlib.Core.Path.{sym, ap, ◌∙◌}
use Prim.Native.Nat.{ℕ, ◌/◌, ◌%◌}
use Rattle.checksum.proofs.Row.{sent_is, sent-low, sent-high}
use Rattle.bits.proofs.Said.{says-equal}
use Rattle.checksum.proofs.agrees.Goals as goal

pub returns-then-low_byte-low : goal.returns-then-low_byte-low
returns-then-low_byte-low c =
    let sum = c.checksum-sum.ensures in
    let low = c.low_byte.ensures ∙ ap (λ (n : ℕ). n % 256) sum in
    let high = c.high_byte.ensures ∙ ap (λ (n : ℕ). n / 256) sum in
    says-equal c.high_byte.result _ _ (λ e. sent_is _ (sym c.if-low_byte-low.true ∙ low) (sym e ∙ high)) (λ p. high ∙ sym (sent-high _ p))

pub returns-else-low_byte-low : goal.returns-else-low_byte-low
returns-else-low_byte-low c =
    let sum = c.checksum-sum.ensures in
    let low = c.low_byte.ensures ∙ ap (λ (n : ℕ). n % 256) sum in
    says-equal c.low_byte.result _ _ (λ e. absurd (c.if-low_byte-low.false e)) (λ p. low ∙ sym (sent-low _ p))
