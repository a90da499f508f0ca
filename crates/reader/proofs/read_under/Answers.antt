-- `reader::read_under` meets its contract.
-- Assumes nothing.
use Rattle.reader.proofs.ReadOnce.{refused-on}
use Rattle.reader.proofs.read_under.Goals as goal

pub returns-in_err-reading : goal.returns-in_err-reading
returns-in_err-reading c =
    let r = c.in_err-reading in
    refused-on c.args.terms c.args.packet.now c.args.text.now r.field-0.0 r.ensures _ c.from_residual.ensures.1
