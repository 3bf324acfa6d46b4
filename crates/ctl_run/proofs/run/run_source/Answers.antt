use Rattle.std.proofs.Common.{◌≡◌, ◌≤◌, ◌++◌, inr, ap, sym, subst, ◌∙◌, arith, false}
use Rattle.std.proofs.lemmas.Result.{err_from_is_err_and}
use Rattle.ctl_tree.specs.declared.request.Order.{Order}
use Rattle.ctl_code.specs.declared.code.Code.{Code}
use Rattle.ctl_machine.specs.Machine.{Running, after_steps, shown_between}
use Rattle.ctl_machine.proofs.Shown.{shown_from_start}
use Rattle.ctl_run.specs.Headline.{RunsSource, account_of}
use Rattle.ctl_verdict.specs.Compiled.{IsCodeOf}
use Rattle.ctl_run.proofs.Composed.{Tells}
use Rattle.ctl_run.proofs.Sources.{in_source}
use Rattle.ctl_run.proofs.run.run_source.Goals as goal

pub returns-clause-headline : goal.returns-clause-headline
returns-clause-headline c =
    let source = c.args.source.now in
    let m = c.run.new.self in
    let new = c.in_ok-machine.ensures in
    let code = c.run.ensures.code ∙ ap (λ (x : Running). x.code) new in
    let order = c.run.ensures.order ∙ ap (λ (x : Running). x.order) new in
    let start = ap (λ (x : Running). x.steps) new in
    let within : m.steps ≤ c.args.steps = omega (arith, c.run.ensures.bound, start) in
    let counted : m.has_ended ≡ false → m.steps ≡ c.args.steps = λ running. let h = c.run.ensures.counted running in omega (arith, h, start, c.ranges.steps.fits) in
    let before = ap (λ (x : Running). x.waiting ++ shown_between x.code x.order x.steps m.steps) new in
    let same : shown_between c.in_ok-code.code c.args.order 0 m.steps ≡ (after_steps m.code m.order m.steps).log.trace =
    shown_from_start c.in_ok-code.code c.args.order m.steps ∙ (ap (λ (x : Code). (after_steps x c.args.order m.steps).log.trace) (sym code) ∙ ap (λ (x : Order). (after_steps m.code x m.steps).log.trace) (sym order)) in
    let reports = c.finish.ensures in
    let told : Tells m (account_of c.finish.result) = record {
      steps = reports.steps;
      events = reports.events ∙ (c.run.ensures.shows ∙ (before ∙ same));
      picks = reports.picks;
      end = reports.end;
    } in
    let of : IsCodeOf source m.code = subst (λ (x : Code). IsCodeOf source x) (sym code) c.in_ok-code.ensures.compiled in
    subst (λ (x : Order). RunsSource source x c.args.steps (account_of c.finish.result)) order (in_source source m c.args.steps (account_of c.finish.result) of told within counted)

-- no code was made of the text

pub returns-in_err-code-clause-refused : goal.returns-in_err-code-clause-refused
returns-in_err-code-clause-refused c =
    let p = err_from_is_err_and c.from_residual.result c.from_residual.ensures.1 in
    rw (p.1, p.2) c.in_err-code.ensures.refused

pub returns-in_err-code-clause-faulty : goal.returns-in_err-code-clause-faulty
returns-in_err-code-clause-faulty c = λ fault has.
    let p = err_from_is_err_and c.from_residual.result c.from_residual.ensures.1 in
    rw (p.1, p.2) (c.in_err-code.ensures.faulty fault has)

pub returns-in_err-code-clause-faultless : goal.returns-in_err-code-clause-faultless
returns-in_err-code-clause-faultless c = λ text.
    let p = err_from_is_err_and c.from_residual.result c.from_residual.ensures.1 in
    rw (p.1, p.2) (c.in_err-code.ensures.faultless text)

-- no machine was made of it, for want of memory

pub returns-in_err-machine-clause-refused : goal.returns-in_err-machine-clause-refused
returns-in_err-machine-clause-refused c =
    let p = err_from_is_err_and c.from_residual-in_err-machine.result c.from_residual-in_err-machine.ensures.1 in
    rw p.1 (inr p.2)

pub returns-in_err-machine-clause-faultless : goal.returns-in_err-machine-clause-faultless
returns-in_err-machine-clause-faultless c = λ text.
    let p = err_from_is_err_and c.from_residual-in_err-machine.result c.from_residual-in_err-machine.ensures.1 in
    rw p.1 p.2

pub returns-in_err-machine-clause-faulty : goal.returns-in_err-machine-clause-faulty
returns-in_err-machine-clause-faulty c = λ fault has. absurd (c.in_ok-code.ensures.faulty fault has)

pub returns-clause-faulty : goal.returns-clause-faulty
returns-clause-faulty c = λ fault has. absurd (c.in_ok-code.ensures.faulty fault has)
