-- `text_sender::put_data` meets its contract. Assumes nothing.
use mathlib.Core.Path.{subst}
use native.Mathlib.Omega.{arith}
use lib.Dec.{lit≤}
use lib.ListN.{length}
use Rattle.codes.specs.Steps.Sending.{PutSoFar}
use Rattle.codes.proofs.PutSoFar.{put-none, first-ready, first-sent, put-flush-room, put-flushed}
use Rattle.text_sender.proofs.Ends.{end-whole, end-room, end-sent}
use Rattle.text_sender.proofs.put_data.Goals as goal

pub loop-i-init : goal.loop-i-init
loop-i-init g c =
    let f = g.F.Writes in
    let t = c.args.text.now in
    let out = c.args.out.now in
    (omega arith, subst (PutSoFar (f.ours t) out out _) (f.laws.begins t) (put-none (f.ours t) out (f.laws.binary t c.requires.0) c.requires.1))

pub send-b-requires : goal.send-b-requires
send-b-requires g c =
    let f = g.F.Writes in
    let t = c.args.text.now in
    first-ready (f.ours t) c.args.out.now (f.laws.binary t c.requires.0) c.requires.1 c.loop-i.out c.loop-i.b (f.bits_from t) (length t) c.loop-i.i 32
    c.next_codes-next.result (lit≤ tt) c.next_codes-next.ensures c.loop-i.invariant.1

pub loop-i-preserved : goal.loop-i-preserved
loop-i-preserved g c =
    let f = g.F.Writes in
    let t = c.args.text.now in (
      c.next_codes-next.ensures.within,
      first-sent (f.ours t) c.args.out.now (f.laws.binary t c.requires.0) c.requires.1 c.loop-i.out c.loop-i.b (f.bits_from t) (length t) c.loop-i.i 32
          c.next_codes-next.result (lit≤ tt) c.next_codes-next.ensures c.loop-i.invariant.1 c.send-b.new.out c.send-b.result c.send-b.ensures,
    )

pub send_end-last-requires-clause-whole : goal.send_end-last-requires-clause-whole
send_end-last-requires-clause-whole g c =
    let f = g.F.Writes in
    let t = c.args.text.now in
    end-whole (f.ours t) c.args.out.now (f.laws.binary t c.requires.0) c.requires.1 c.loop-i.out c.loop-i.b (f.bits_from t) c.loop-i.i (length t)
    c.loop-i.invariant.1 c.loop-i.invariant.0 c.loop-i-test.false

pub send_end-last-requires-clause-room : goal.send_end-last-requires-clause-room
send_end-last-requires-clause-room g c =
    let f = g.F.Writes in
    let t = c.args.text.now in
    end-room (f.ours t) c.args.out.now (f.laws.binary t c.requires.0) c.requires.1 c.loop-i.out c.loop-i.b (f.bits_from t) c.loop-i.i (length t)
    c.loop-i.invariant.1 c.loop-i.invariant.0 c.loop-i-test.false

pub flush-requires : goal.flush-requires
flush-requires g c =
    let f = g.F.Writes in
    let t = c.args.text.now in
    let binary = f.laws.binary t c.requires.0 in
    let sent =
    end-sent (f.ours t) c.args.out.now binary c.requires.1 c.loop-i.out c.loop-i.b (f.bits_from t) c.loop-i.i (length t) c.loop-i.invariant.1
    c.loop-i.invariant.0 c.loop-i-test.false c.send_end-last.new.out c.send_end-last.result c.send_end-last.ensures in
    (sent.few, put-flush-room (f.ours t) c.args.out.now binary c.requires.1 c.send_end-last.new.out c.send_end-last.result sent)

pub returns : goal.returns
returns g c =
    let f = g.F.Writes in
    let t = c.args.text.now in
    let binary = f.laws.binary t c.requires.0 in
    put-flushed (f.ours t) c.args.out.now binary c.requires.1 c.send_end-last.new.out c.send_end-last.result
    (end-sent (f.ours t) c.args.out.now binary c.requires.1 c.loop-i.out c.loop-i.b (f.bits_from t) c.loop-i.i (length t) c.loop-i.invariant.1
    c.loop-i.invariant.0 c.loop-i-test.false c.send_end-last.new.out c.send_end-last.result c.send_end-last.ensures)
    c.flush.new.out c.flush.result c.flush.ensures
