use Rattle.std.proofs.Common.{◌≡◌, Bool, true, false, ◌∙◌, ap, arith, refl, sym, subst}
use Rattle.std.proofs.lemmas.Result.{err_from_is_err_and}
use Rattle.std.specs.Io.KnownBytes.{Appends}
use Rattle.std.proofs.KnownBytes.{Appends-trans}
use Rattle.ctl_sink.specs.Prefix.{AppendsPart}
use Rattle.ctl_text.specs.Texts.{output_of}
use Rattle.ctl_machine.specs.Machine.{progress_of, shown_between}
use Rattle.ctl_run.proofs.Going.{printed_further}
use Rattle.ctl_run.proofs.Printed.{part_behind}
use Rattle.ctl_run.proofs.printing.run_machine.Goals as goal

-- what was put is the beginning of what was printed
pub returns-in_err-put_output-clause-part : goal.returns-in_err-put_output-clause-part
returns-in_err-put_output-clause-part g c =
    let taken = g.S.Sink.taken in
    let first = c.args.machine.now in
    let before = c.loop-left.machine in
    let is = c.loop-left.invariant in
    let after = c.run-progress.new.self in
    let p = err_from_is_err_and c.from_residual.result c.from_residual.ensures.1 in
    let old = taken c.args.sink.now in
    let new = taken c.put_output.new.sink in
    rw p.1 (subst (AppendsPart old new) (sym (printed_further first before after c.waiting.result.now is.code is.order is.waiting c.run-progress.ensures.shows is.begun c.run-progress.ensures.taken c.waiting.ensures))
    (part_behind old (taken c.loop-left.sink) new (output_of (shown_between first.code first.order first.steps before.steps)) (output_of c.waiting.result.now) is.taken c.in_err-put_output.ensures.part))

pub returns-then-progress-eq1-clause-all : goal.returns-then-progress-eq1-clause-all
returns-then-progress-eq1-clause-all g c =
    let taken = g.S.Sink.taken in
    let first = c.args.machine.now in
    let before = c.loop-left.machine in
    let is = c.loop-left.invariant in
    let after = c.run-progress.new.self in
    let old = taken c.args.sink.now in
    let new = taken c.put_output.new.sink in
    subst (λ n. Appends old new (output_of (shown_between first.code first.order first.steps n))) (sym c.drop_waiting.ensures.steps)
    (subst (Appends old new) (sym (printed_further first before after c.waiting.result.now is.code is.order is.waiting c.run-progress.ensures.shows is.begun c.run-progress.ensures.taken c.waiting.ensures))
    (Appends-trans old (taken c.loop-left.sink) new (output_of (shown_between first.code first.order first.steps before.steps)) (output_of c.waiting.result.now) is.taken c.in_ok-put_output.ensures.all))

-- where the machine has not ended
pub loop-left-preserved : goal.loop-left-preserved
loop-left-preserved g c =
    let first = c.args.machine.now in
    let before = c.loop-left.machine in
    let is = c.loop-left.invariant in
    let after = c.run-progress.new.self in
    let taken = g.S.Sink.taken in
    let old = taken c.args.sink.now in
    let new = taken c.put_output.new.sink in
    let by : (b : Bool) → after.has_ended ≡ b → after.has_ended ≡ false =
    elim [ false ↦ λ e. e | true ↦ λ e. absurd (let over = rw (c.run-progress.ensures.progress ∙ ap progress_of e) at c.if-progress-eq1.false in cc) ] in
    let goes_on = by after.has_ended refl in
    let further = c.run-progress.ensures.counted goes_on in
    record {
      code = c.drop_waiting.ensures.code ∙ (c.run-progress.ensures.code ∙ is.code);
      order = c.drop_waiting.ensures.order ∙ (c.run-progress.ensures.order ∙ is.order);
      begun = omega (arith, c.drop_waiting.ensures.steps, c.run-progress.ensures.taken, is.begun);
      steps = omega (arith, c.drop_waiting.ensures.steps, further, is.steps, c.requires.count, c.min-steps.ensures);
      running = c.drop_waiting.ensures.ended ∙ goes_on;
      waiting = c.drop_waiting.ensures.waiting;
      taken = subst (λ n. Appends old new (output_of (shown_between first.code first.order first.steps n))) (sym c.drop_waiting.ensures.steps)
          (subst (Appends old new) (sym (printed_further first before after c.waiting.result.now is.code is.order is.waiting c.run-progress.ensures.shows is.begun c.run-progress.ensures.taken c.waiting.ensures))
          (Appends-trans old (taken c.loop-left.sink) new (output_of (shown_between first.code first.order first.steps before.steps)) (output_of c.waiting.result.now) is.taken c.in_ok-put_output.ensures.all));
      kept = c.in_ok-put_output.ensures.ok ∙ is.kept;
    }
