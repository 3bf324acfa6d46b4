use Rattle.std.proofs.Common.{◌≡◌, ◌≤◌, ◌∙◌, ap, arith, false, sym, subst}
use Rattle.std.specs.Io.KnownBytes.{Appends}
use Rattle.ctl_tree.specs.declared.request.Order.{Order}
use Rattle.ctl_sink.specs.Prefix.{AppendsPart}
use Rattle.ctl_text.specs.Texts.{output_of}
use Rattle.ctl_code.specs.declared.code.Code.{Code}
use Rattle.ctl_machine.specs.Machine.{Running, shown_between}
use Rattle.ctl_run.specs.Headline.{RunsSource}
use Rattle.ctl_verdict.specs.Compiled.{IsCodeOf}
use Rattle.ctl_run.proofs.Sources.{account_with, let_go_in_source}
use Rattle.ctl_run.proofs.BrokenOff.{broken_off}
use Rattle.ctl_run.proofs.printing.run_code.Goals as goal

pub returns-in-Ok-printed-clause-ok : goal.returns-in-Ok-printed-clause-ok
returns-in-Ok-printed-clause-ok g c = λ source compiled.
    let taken = g.S.Sink.taken in
    let limit = c.args.steps in
    let m = c.run_machine-printed.new.machine in
    let o = c.finish-outcome.result in
    let first = c.in-Ok.machine in
    let new = c.in-Ok.ensures in
    let start = ap (λ (x : Running). x.steps) new in
    let code = c.run_machine-printed.ensures.code ∙ ap (λ (x : Running). x.code) new in
    let order = c.run_machine-printed.ensures.order ∙ ap (λ (x : Running). x.order) new in
    let of : IsCodeOf source m.code = subst (λ (x : Code). IsCodeOf source x) (sym code) compiled in
    let within : m.steps ≤ limit = omega (arith, c.run_machine-printed.ensures.bound, start) in
    let counted : m.has_ended ≡ false → m.steps ≡ limit = λ running. let h = c.in-Ok-printed.ensures.counted running in omega (arith, h, start) in
    let same : shown_between first.code first.order first.steps m.steps ≡ shown_between m.code m.order 0 m.steps =
    ap (λ (x : Code). shown_between x first.order first.steps m.steps) (sym c.run_machine-printed.ensures.code)
    ∙ (ap (λ (x : Order). shown_between m.code x first.steps m.steps) (sym c.run_machine-printed.ensures.order) ∙ ap (λ n. shown_between m.code m.order n m.steps) start) in
    record {
      account = account_with m o;
      runs = subst (λ (x : Order). RunsSource source x limit (account_with m o)) order (let_go_in_source source m limit o of c.finish-outcome.ensures within counted);
      summarized = record { picks = c.from.ensures.picks; end = c.from.ensures.end; steps = c.from.ensures.steps };
      whole = subst (λ l. Appends (taken c.args.sink.now) (taken c.run_machine-printed.new.sink) (output_of l)) same c.in-Ok-printed.ensures.all;
    }

pub returns-in-Err-clause-write : goal.returns-in-Err-clause-write
returns-in-Err-clause-write g c = λ source compiled is.
    let taken = g.S.Sink.taken in
    let m = c.run_machine-printed.new.machine in
    let new = c.in-Ok.ensures in
    let start = ap (λ (x : Running). x.steps) new in
    let within : m.steps ≤ c.args.steps = omega (arith, c.run_machine-printed.ensures.bound, start) in
    let same : shown_between c.in-Ok.machine.code c.in-Ok.machine.order c.in-Ok.machine.steps m.steps ≡ shown_between c.args.code.now c.args.order 0 m.steps = ap (λ (x : Running). shown_between x.code x.order x.steps m.steps) new in
    broken_off source c.args.code.now c.args.order m.steps c.args.steps (taken c.args.sink.now) (taken c.run_machine-printed.new.sink) compiled within
    (subst (λ l. AppendsPart (taken c.args.sink.now) (taken c.run_machine-printed.new.sink) (output_of l)) same c.in-Err.ensures.part)
