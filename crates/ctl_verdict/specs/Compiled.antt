-- The code of a source text.
use Rattle.std.specs.Prelude.{ℕ, List, Ok}
use Rattle.ctl_program.specs.declared.program.Checked.{Checked}
use Rattle.ctl_code.specs.declared.code.Code.{Code}
use Rattle.ctl_gen.specs.Correct.{Behaves}
use Rattle.ctl_layout.specs.Layout.{IsLaidOut}
use Rattle.ctl_verdict.specs.Verdict.{IsVerdict}

-- the code of an accepted text: that of its program, which it does
pub record IsCodeOf (source : List ℕ) (code : Code) : Type 0 where
  pub program : Checked
  pub accepted : IsVerdict source (Ok program)
  pub laid_out : IsLaidOut program code
  pub behaves : Behaves program code
