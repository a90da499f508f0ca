-- Standard input as reads bring it in: a read that fails is not its end.
-- Assumes nothing.
use Rattle.std.specs.Prelude.{ℕ, zero, suc, ◌+◌, ◌≡◌, ◌<◌, ◌^◌, ◌⊎◌, Ok, Err}
use Rattle.std.specs.Process.{exit_status}
use Rattle.std.specs.declared.ops.ControlFlow.{ControlFlow}
use Rattle.std.specs.declared.ops.ControlFlow.TheVariants.{Continue, Break}
use Rattle.std.specs.declared.process.ExitCode.{ExitCode}
use Rattle.std.specs.declared.result.Result.{Result}

-- the bytes after a read, with so many before it: an error is a failure, 0 the end, and any other number the bytes that came
abbrev pub after_read : {E : Type 0} → ℕ → Result ℕ E → Result (ControlFlow ℕ ℕ) E
after_read done (Err e) = Err e
after_read done (Ok zero) = Ok (Break done)
after_read done (Ok (suc k)) = Ok (Continue (done + suc k))

-- the bytes can be counted
abbrev pub Fits : {E : Type 0} → ℕ → Result ℕ E → Type 0
Fits done (Err e) = Unit {0}
Fits done (Ok k) = done + k < 2 ^ 64

-- a program ends with 0 or 2
abbrev pub EndsAs : ExitCode → Type 0
EndsAs code = (exit_status code ≡ 0) ⊎ (exit_status code ≡ 2)
