-- `judge::judge_into` meets its contract.
-- Assumes nothing.
use Rattle.terms.specs.Terms.{naming}
use Rattle.terms.proofs.Usual.{most-few}
use Rattle.judge.proofs.Answers.{fits, held, refused}
use Rattle.judge.proofs.judge_into.Goals as goal

pub judge_sections-requires : goal.judge_sections-requires
judge_sections-requires c =
    let a = c.args in
    fits (naming a.mend a.rate_1200) a.packet.now a.text.now c.read_mending.new.text (most-few a.rate_1200) c.in-Ok.reading c.in-Ok.ensures

pub returns-in-Ok : goal.returns-in-Ok
returns-in-Ok c =
    let a = c.args in
    held (naming a.mend a.rate_1200) a.packet.now a.text.now c.read_mending.new.text (most-few a.rate_1200) c.in-Ok.reading c.in-Ok.ensures
    c.judge_sections.result c.judge_sections.ensures

pub returns-in-Err : goal.returns-in-Err
returns-in-Err c =
    let a = c.args in
    refused (naming a.mend a.rate_1200) a.packet.now a.text.now c.read_mending.new.text (most-few a.rate_1200) c.requires c.in-Err.refusal c.in-Err.ensures
    c.of_packet.result c.of_packet.ensures
