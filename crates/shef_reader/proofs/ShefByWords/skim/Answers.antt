-- `shef_reader::ShefByWords::skim` meets its contract. Assumes nothing.
use Rattle.std.proofs.Common.{arith}
use Rattle.shef_reader.proofs.Fives.{fives-counted}
use Rattle.shef_reader.proofs.ShefByWords.skim.Goals as goal

pub returns-then-ten_fives : goal.returns-then-ten_fives
returns-then-ten_fives c = record {
  brief = omega arith;
  stuck = λ h. absurd (let no : ⊥ = omega arith in no);
  passed = fives-counted c.args.held c.args.have c.requires.0 c.requires.1 (c.ten_fives.ensures c.if-ten_fives.true) 10 (omega arith);
}
