-- `checksum::checksum` meets its contract.
-- Assumes nothing.
use Rattle.checksum.specs.Checksum.{checksum_of}
use Rattle.checksum.proofs.checksum.Goals as goal

pub returns : goal.returns
unfolding checksum_of
returns c = c.after.ensures
