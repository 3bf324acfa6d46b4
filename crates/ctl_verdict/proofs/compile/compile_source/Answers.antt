use Rattle.std.proofs.Common.{ℕ, List, ◌⊎◌, inr, Result, Ok, Err, refl}
use Rattle.std.specs.Prelude.{IfErr, IfOk}
use Rattle.std.proofs.lemmas.Result.{IfErr-weaker, err_from_is_err_and}
use Rattle.ctl_tree.specs.declared.fault.Fault.{Fault}
use Rattle.ctl_program.specs.declared.program.Checked.{Checked}
use Rattle.ctl_lex.specs.Memory.{IsMemory}
use Rattle.ctl_code.specs.declared.code.Code.{Code}
use Rattle.ctl_gen.specs.Correct.{Behaves}
use Rattle.ctl_gen.proofs.FormedWhole.{linked_of}
use Rattle.ctl_layout.specs.Layout.{IsLaidOut}
use Rattle.ctl_layout.specs.Run.{AreLinked, IsRun}
use Rattle.ctl_verdict.specs.Compiled.{IsCodeOf}
use Rattle.ctl_verdict.specs.Verdict.{IsFaultOf, IsVerdict}
use Rattle.ctl_verdict.proofs.Verdicts.{answer_of, for_memory, not_accepted, refused_for, refused_with_it, runs_of, verdict_of}
use Rattle.ctl_verdict.proofs.WellTyped.{well_typed}
use Rattle.ctl_verdict.proofs.compile.compile_source.Goals as goal

-- the code of the program is that of the text
is_code_of : (source : List ℕ) (program : Checked) (r : Result Code Fault) → IsVerdict source (Ok program) → IfOk r (λ code. IsLaidOut program code) → IfOk r (λ code. IsRun program → AreLinked program → Behaves program code)
    → IsRun program → AreLinked program → IfOk r (λ code. IsCodeOf source code)
is_code_of source program (Ok code) accepted laid_out behaves runs linked = record { program = program; accepted = accepted; laid_out = laid_out; behaves = behaves runs linked }
is_code_of source program (Err fault) accepted laid_out behaves runs linked = tt

pub returns-clause-compiled : goal.returns-clause-compiled
returns-clause-compiled c =
    let source = c.args.source.now in
    let program = c.in_ok-program.program in
    let verdict = verdict_of source program c.in_ok-program.ensures in
    let typed = well_typed source program (answer_of source (Ok program) program verdict refl) in
    is_code_of source program c.generate-code.result verdict c.generate-code.ensures.layout c.generate-code.ensures.behaves (runs_of source (Ok program) program verdict refl) (linked_of program typed)

-- the check refuses the text for its fault, or for want of memory

pub returns-in_err-program-clause-refused : goal.returns-in_err-program-clause-refused
returns-in_err-program-clause-refused c =
    let p = err_from_is_err_and c.from_residual.result c.from_residual.ensures.1 in
    rw (p.1, p.2) (refused_for c.args.source.now c.in_err-program.field-0.0 c.in_err-program.ensures)

pub returns-in_err-program-clause-faulty : goal.returns-in_err-program-clause-faulty
returns-in_err-program-clause-faulty c = λ fault has.
    let p = err_from_is_err_and c.from_residual.result c.from_residual.ensures.1 in
    rw (p.1, p.2) (refused_with_it c.args.source.now fault c.in_err-program.field-0.0 has c.in_err-program.ensures)

pub returns-in_err-program-clause-faultless : goal.returns-in_err-program-clause-faultless
returns-in_err-program-clause-faultless c = λ text.
    let p = err_from_is_err_and c.from_residual.result c.from_residual.ensures.1 in
    rw (p.1, p.2) (for_memory c.args.source.now c.in_err-program.field-0.0 text c.in_err-program.ensures)

-- behind it only memory is wanting: the code of a well-typed program that is run is valid

pub returns-clause-faultless : goal.returns-clause-faultless
returns-clause-faultless c = λ text.
    let source = c.args.source.now in
    let program = c.in_ok-program.program in
    let verdict = verdict_of source program c.in_ok-program.ensures in
    c.generate-code.ensures.memory (runs_of source (Ok program) program verdict refl) (well_typed source program (answer_of source (Ok program) program verdict refl))

pub returns-clause-refused : goal.returns-clause-refused
returns-clause-refused c =
    let source = c.args.source.now in
    let program = c.in_ok-program.program in
    let verdict = verdict_of source program c.in_ok-program.ensures in
    IfErr-weaker c.generate-code.result IsMemory (λ fault. IsFaultOf source fault ⊎ IsMemory fault) (λ fault h. inr h)
    (c.generate-code.ensures.memory (runs_of source (Ok program) program verdict refl) (well_typed source program (answer_of source (Ok program) program verdict refl)))

pub returns-clause-faulty : goal.returns-clause-faulty
returns-clause-faulty c = λ fault has. absurd (not_accepted c.args.source.now fault c.in_ok-program.program has c.in_ok-program.ensures)
