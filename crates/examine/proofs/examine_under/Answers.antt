-- `examine::examine_under` meets its contract.
-- Assumes nothing.
use native.Mathlib.Omega.{arith}
use Rattle.examine.proofs.ExamineAnswers.{refused-on, refused-sum, refused-data, accepted-measured}
use Rattle.examine.proofs.examine_under.Goals as goal

pub returns-in-Some : goal.returns-in-Some
returns-in-Some c =
    refused-sum c.args.terms c.requires c.args.packet.now _ c.in_ok-found.ensures _ c.in-Some.ensures _ (omega arith)

pub returns-in_err-extent : goal.returns-in_err-extent
returns-in_err-extent c =
    let packet = c.args.packet.now in
    let unread = c.in_err-extent in
    refused-on c.args.terms packet _
    (refused-data c.args.terms c.requires packet _ c.in_ok-found.ensures c.in_default.ensures unread.field-0.0 unread.ensures) _
    c.from_residual-in_err-extent.ensures.1

-- malformed data is refused above, as `?` hands it on
-- data with a text is read
pub returns : goal.returns
returns c =
    let extent = c.in_ok-extent in
    accepted-measured c.args.terms c.requires c.args.packet.now _ c.in_ok-found.ensures c.in_default.ensures extent.extent extent.ensures _ _ (omega arith) (omega arith)
