use Rattle.std.proofs.Common.{ap, refl, sym, ◌∙◌, option_map}
use Rattle.ctl_emitter.specs.Emitted.{stated}
use Rattle.ctl_layout.specs.Values.{value_code}
use Rattle.ctl_layout.specs.Layout.{departure, exit}
use Rattle.ctl_emitter.proofs.Emission.{on_ok}
use Rattle.ctl_emit.proofs.EmittedStatements.{only_if_emitted}
use Rattle.ctl_emit.proofs.emit_statements.exit.Goals as goal

pub returns-in_ok-take-in-Some : goal.returns-in_ok-take-in-Some
returns-in_ok-take-in-Some c = on_ok _ _ c.exit_to-in-Some.result c.exit_to-in-Some.ensures (λ e.
    only_if_emitted (value_code c.in-Some.test) departure 1 c.in_ok-from-in-Some.from c.args.landing c.args.emitter.now c.held.new.self c.take.new.self c.exit_to-in-Some.new.emitter c.requires refl
    c.in_ok-from-in-Some.ensures.held c.in_ok-from-in-Some.ensures.cell c.in_ok-take-in-Some.ensures e
    ∙ ap (λ o. stated (exit (option_map value_code o)) c.args.landing c.args.emitter.now) (sym c.in-Some.is))
