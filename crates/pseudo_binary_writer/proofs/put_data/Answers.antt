-- `pseudo_binary_writer::put_data` meets its contract. The loop's invariant: the data is put so far that the announced values and our entries for the text
-- after them are still to come. Assumes nothing.
use mathlib.Core.Path.{subst}
use mathlib.Core.List.{[]}
use Prim.Native.Nat.{◌+◌, ◌-◌}
use native.Mathlib.Omega.{arith}
use Rattle.codes.specs.Chain.{codes}
use Rattle.codes.specs.Pack.{Binary, low}
use Rattle.codes.specs.Steps.Sending.{PutSoFar}
use Rattle.codes.proofs.LowBits.{length-low}
use Rattle.codes.proofs.PutSoFar.{sends-bits, put-none, put-flush-room, put-flushed}
use Rattle.pseudo_binary.specs.Writer.{ours}
use Rattle.pseudo_binary.proofs.Writer.{writer-laws}
use Rattle.pseudo_binary_writer.specs.Steps.Sending.{eight_values}
use Rattle.pseudo_binary_writer.proofs.Announced.{ours-end}
use Rattle.pseudo_binary_writer.proofs.Sends.{Proceeds, row-fewer, next-proceeds, eight-length, eight-proceeds}
use Rattle.pseudo_binary_writer.proofs.Turn.{turn-room, turn-again}
use Rattle.pseudo_binary_writer.proofs.put_data.Goals.{After-loop-i, After-next_codes-next, Then-announced-ge8}
use Rattle.pseudo_binary_writer.proofs.put_data.Goals as goal

pub loop-i-init : goal.loop-i-init
unfolding ours
loop-i-init c =
    let t = c.args.text.now in
    (omega arith, tt, put-none (ours t) c.args.out.now (writer-laws.ours-binary t c.requires.0) c.requires.1)

-- eight values come next
eight : (c : Then-announced-ge8) → Proceeds c.args.text.now c.loop-i.i c.loop-i.announced
    (eight_values c.args.text.now c.loop-i.i) (c.loop-i.i + 8) (c.loop-i.announced - 8)
eight c =
    eight-proceeds c.args.text.now c.loop-i.i c.loop-i.announced c.loop-i.invariant.0 c.loop-i.invariant.1 (omega (arith, c.if-announced-ge8.true))

pub send_eight-b-requires : goal.send_eight-b-requires
send_eight-b-requires c =
    let t = c.args.text.now in
    let l = c.loop-i in (
      omega (arith, l.invariant.0, c.if-announced-ge8.true),
      l.invariant.2.few,
      omega (
        arith,
        turn-room t c.args.out.now l.out l.b l.i l.announced c.requires l.invariant.2 _ _ _ (eight (goal.at.send_eight-b-requires c).Then-announced-ge8),
        eight-length t l.i,
      ),
    )

pub loop-i-smaller-then-announced-ge8 : goal.loop-i-smaller-then-announced-ge8
loop-i-smaller-then-announced-ge8 c =
    row-fewer c.args.text.now c.loop-i.i c.loop-i.announced _ _ _ (eight (goal.at.loop-i-smaller-then-announced-ge8 c).Then-announced-ge8)

pub loop-i-preserved-then-announced-ge8 : goal.loop-i-preserved-then-announced-ge8
loop-i-preserved-then-announced-ge8 c =
    let l = c.loop-i in
    turn-again c.args.text.now c.args.out.now l.out l.b l.i l.announced c.requires l.invariant.2 _ _ _
    (eight (goal.at.loop-i-preserved-then-announced-ge8 c).Then-announced-ge8) c.send_eight-b.new.out c.send_eight-b.result c.send_eight-b.ensures

-- other codes come next
next : (c : After-next_codes-next) → Proceeds c.args.text.now c.loop-i.i c.loop-i.announced
    (low c.next_codes-next.result.width c.next_codes-next.result.bits) (c.loop-i.i + c.next_codes-next.result.count) c.next_codes-next.result.values
next c =
    next-proceeds c.args.text.now c.loop-i.i c.loop-i.announced c.next_codes-next.result (omega (arith, c.loop-i.invariant.0)) c.next_codes-next.ensures

pub send-b-requires : goal.send-b-requires
send-b-requires c =
    let l = c.loop-i in
    let r = c.next_codes-next.result in (
      l.invariant.2.few,
      omega (arith, c.next_codes-next.ensures.long),
      c.next_codes-next.ensures.fits,
      omega (
        arith,
        turn-room c.args.text.now c.args.out.now l.out l.b l.i l.announced c.requires l.invariant.2 _ _ _ (next (goal.at.send-b-requires c).After-next_codes-next),
        length-low r.width r.bits,
      ),
    )

pub loop-i-smaller : goal.loop-i-smaller
loop-i-smaller c = row-fewer c.args.text.now c.loop-i.i c.loop-i.announced _ _ _ (next (goal.at.loop-i-smaller c).After-next_codes-next)

pub loop-i-preserved : goal.loop-i-preserved
loop-i-preserved c =
    let l = c.loop-i in
    let r = c.next_codes-next.result in
    turn-again c.args.text.now c.args.out.now l.out l.b l.i l.announced c.requires l.invariant.2 _ _ _ (next (goal.at.loop-i-preserved c).After-next_codes-next)
    c.send-b.new.out c.send-b.result
    (sends-bits l.out c.send-b.new.out l.b r.width r.bits c.send-b.result l.invariant.2.few (omega (arith, c.next_codes-next.ensures.long)) c.send-b.ensures)

-- after the loop nothing is still to come
all-sent : (c : After-loop-i) → PutSoFar (ours c.args.text.now) c.args.out.now c.loop-i.out c.loop-i.b []
all-sent c =
    let t = c.args.text.now in
    subst (PutSoFar (ours t) c.args.out.now c.loop-i.out c.loop-i.b) (ours-end t c.loop-i.i c.loop-i.announced c.loop-i-test.false) c.loop-i.invariant.2

binary : (c : After-loop-i) → Binary (codes (ours c.args.text.now))
binary c = writer-laws.ours-binary c.args.text.now c.requires.0

pub flush-requires : goal.flush-requires
flush-requires c =
    let l = (goal.at.flush-requires c).After-loop-i in
    (omega (arith, c.loop-i.invariant.2.few), put-flush-room (ours c.args.text.now) c.args.out.now (binary l) c.requires.1 c.loop-i.out c.loop-i.b (all-sent l))

pub returns : goal.returns
returns c =
    let l = (goal.at.returns c).After-loop-i in
    put-flushed (ours c.args.text.now) c.args.out.now (binary l) c.requires.1 c.loop-i.out c.loop-i.b (all-sent l) c.flush.new.out c.flush.result c.flush.ensures
