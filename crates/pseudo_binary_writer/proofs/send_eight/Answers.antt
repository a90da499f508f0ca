-- `pseudo_binary_writer::send_eight` meets its contract. Assumes nothing.
use mathlib.Core.List.{◌++◌}
use mathlib.Core.Path.{subst₂}
use Prim.Native.Nat.{ℕ, ◌/◌, ◌%◌}
use lib.Dec.{lit≤}
use Rattle.codes.specs.Pack.{low}
use Rattle.codes.specs.Steps.Sending.{SendsBits}
use Rattle.codes.proofs.PutSoFar.{sends-bits}
use Rattle.pseudo_binary_writer.proofs.Gathering.{upper-half, lower-half}
use Rattle.pseudo_binary_writer.proofs.Sends.{sends-both}
use Rattle.pseudo_binary_writer.proofs.send_eight.Goals.{After-send-first}
use Rattle.pseudo_binary_writer.proofs.send_eight.Goals as goal

-- the first half is sent
first-half : (s : After-send-first)
    → SendsBits s.args.out.now s.send-first.new.out s.args.b
    (low 24 (s.gathered-values.result / 4294967296)) s.send-first.result
first-half s =
    sends-bits s.args.out.now s.send-first.new.out s.args.b 24 (s.gathered-values.result / 4294967296) s.send-first.result s.requires.1
    (lit≤ tt) s.send-first.ensures

pub returns : goal.returns
returns c =
    let s' = (goal.at.returns c).After-send-first in
    let a = s'.args in
    let x = s'.gathered-values.result in
    let t = a.text.now in
    subst₂ (λ (u v : ℕ). SendsBits a.out.now c.send.new.out a.b (low 24 u ++ low 24 v) c.send.result)
    (upper-half t a.i x s'.gathered-values.ensures) (lower-half t a.i x s'.gathered-values.ensures)
    (sends-both a.out.now c.send-first.new.out c.send.new.out a.b c.send-first.result c.send.result (low 24 (x / 4294967296))
    (low 24 (x % 4294967296)) (first-half s')
    (sends-bits c.send-first.new.out c.send.new.out c.send-first.result 24 (x % 4294967296) c.send.result (first-half s').few (lit≤ tt)
    c.send.ensures))
