-- `shef_reader::count_at` meets its contract. Assumes nothing.
use Rattle.std.proofs.Common.{◌≡◌, ℕ, get_or, refl}
use mathlib.Core.Path.{subst⁻¹}
use Rattle.shef_reader.specs.declared.TheConstants.{COUNTS}
use Rattle.shef_reader.proofs.Six.{counts-right}
use Rattle.shef_reader.proofs.count_at.Goals as goal

pub returns : goal.returns
returns c = record { code = counts-right c.args.six; ones = λ e. subst⁻¹ (λ (n : ℕ). get_or COUNTS n 0 ≡ 19) e refl }
