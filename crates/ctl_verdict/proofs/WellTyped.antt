-- The program of a text is well typed.
use Rattle.std.proofs.Common.{◌≡◌, ℕ, List, Result, Ok, inl, refl, sym}
use Rattle.ctl_program.specs.declared.program.Checked.{Checked}
use Rattle.ctl_well_typed.specs.Programs.{WellTyped}
use Rattle.ctl_sound.proofs.Programs.{programs_well_typed}
use Rattle.ctl_front.specs.Text.{Written, IsAnswer, judged, resolved}
use Rattle.ctl_verdict.proofs.Verdicts.{program_is}

by_tree : (tree : Written) (program : Checked) → judged tree ≡ Ok program → WellTyped program
unfolding judged
by_tree tree program e = (programs_well_typed (resolved tree).0).well_typed (resolved tree).1.names (resolved tree).1.uses program (inl (sym e))

pub well_typed : (source : List ℕ) (program : Checked) → IsAnswer source (Ok program) → WellTyped program
well_typed source program a =
    let p = program_is source (Ok program) program a refl in
    by_tree p.tree program p.judged_so
