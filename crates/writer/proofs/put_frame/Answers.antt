-- `writer::put_frame` meets its contract.
-- Assumes nothing.
use mathlib.Core.Bool.{Bool}
use mathlib.Core.List.{◌++◌}
use mathlib.Core.Path.{◌≡◌, sym, ap, ◌∙◌, subst}
use Prim.Native.Nat.{ℕ, ◌^◌, ◌<◌}
use native.Mathlib.Omega.{arith}
use lib.ListN.{take, drop}
use Rattle.header.specs.declared.Format.{Format}
use Rattle.header.specs.declared.Header.{Header}
use Rattle.header.specs.Fields.{Fit, header_of, sent_fields}
use Rattle.header.specs.Formats.{format_number}
use Rattle.header.proofs.Formats.{number_lt}
use Rattle.packet.specs.Packet.{whole_length, packet_of, header_for}
use Rattle.writer.proofs.InPlace.{framed}
use Rattle.writer.proofs.put_frame.Goals as goal

-- what we send fits its bits
sent-fit : (f : Header) (format : Format) (number n : ℕ) (sync : Bool) → n < 2 ^ 14 → number ≡ format_number format → f ≡ sent_fields number sync n → Fit f
sent-fit f format number n sync few e same =
    subst Fit (sym same) (record { message_type = omega arith; extended_type = omega (arith, number_lt format); length = omega arith })

pub returns : goal.returns
unfolding header_for
returns c =
    let ph = c in
    let tb = ph in
    let nu = tb in
    let dv = nu in
    let a = dv in
    let s = a.args.packet.now in
    let n = a.args.n in
    framed s dv.divide.new.body ph.put_header.new.packet n tb.to_bits.result a.requires.1 dv.divide.ensures ph.put_header.ensures
    ∙ ap (λ (h : ℕ). packet_of h (take n (drop 4 s)) ++ drop (whole_length n) s)
    (tb.to_bits.ensures
    ∙ ap header_of (tb.from_fields.ensures ∙ ap (λ (k : ℕ). sent_fields k a.args.sync n) nu.number.ensures))
